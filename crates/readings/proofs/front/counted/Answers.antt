-- A list is cut where it ends, if that is before the cut.
use Rattle.std.proofs.Common.{rules}
use Rattle.std.proofs.lemmas.List.{take_min}
use Rattle.readings.proofs.front.counted.Goals as goal

pub returns : goal.returns
returns g c = search (rules, take_min)
