use Rattle.reader.proofs.Shut.{some_text_accepted, some_text_not_true}
use Rattle.reader.proofs.reading_stands.Goals as goal

pub returns : goal.returns
returns c = record { not_all_refused = some_text_accepted; not_all_true = some_text_not_true }
