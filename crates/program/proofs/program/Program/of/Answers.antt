use Rattle.program.proofs.Facts.{runs}
use Rattle.program.proofs.program.Program.of.Goals as goal

pub returns-clause-runs : goal.returns-clause-runs
returns-clause-runs c = λ t x. runs _ t x
