use Rattle.runs.proofs.Looking.{looks_back}
use Rattle.runs.proofs.runs_stand.Goals as goal

pub returns : goal.returns
returns g c = record { looks_back = looks_back g.K.TruthKind.algebra g.K.TruthKind.laws g.K.TruthKind.means }
