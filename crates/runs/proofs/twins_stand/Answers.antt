use Rattle.runs.proofs.Twinned.{carries_over}
use Rattle.runs.proofs.twins_stand.Goals as goal

pub returns : goal.returns
returns g c = record { carries_over = carries_over g.K.TruthKind.algebra g.L.TruthKind.algebra g.K.TruthKind.laws g.L.TruthKind.laws g.K.TruthKind.means g.L.TruthKind.means }
