use Rattle.program.proofs.Facts.{predicates_all}
use Rattle.program.proofs.program_stands.Goals as goal

pub returns : goal.returns
returns c = record { asked = predicates_all }
