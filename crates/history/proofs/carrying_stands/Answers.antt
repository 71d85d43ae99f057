use Rattle.history.proofs.Carrying.{value_carried}
use Rattle.history.proofs.carrying_stands.Goals as goal

pub returns : goal.returns
returns g c = record { carried = value_carried g.K.TruthKind.algebra g.L.TruthKind.algebra }
