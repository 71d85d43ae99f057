use Rattle.promise.proofs.Worked.{worked}
use Rattle.promise.proofs.cases_stand.Goals as goal

pub returns : goal.returns
returns c = record { worked = worked }
