-- The margin that is held means itself.
use Rattle.std.proofs.Common.{◌≡◌, rules}
use Rattle.readings.specs.Gauge.{kept, reading}
use Rattle.readings.proofs.Kept.{kept_means}
use Rattle.readings.proofs.gauge.Definition.margin.Goals as goal

pub returns-clause-means : goal.returns-clause-means
returns-clause-means c =
    let value : c.margin_of.result ≡ kept (reading c.args.self.now c.args.value) = search rules in
    kept_means _ _ value
