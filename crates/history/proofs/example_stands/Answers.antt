use Rattle.history.proofs.Worked.{worked}
use Rattle.history.proofs.example_stands.Goals as goal

pub returns : goal.returns
returns c = record { worked = worked }
