use Rattle.evaluation.proofs.Backs.{looks_back}
use Rattle.evaluation.proofs.Opened.{begun_opened}
use Rattle.evaluation.proofs.returning_stands.Goals as goal

pub returns : goal.returns
returns c = record { back = looks_back; opened = begun_opened }
