use Rattle.history.proofs.Views.{open_counts}
use Rattle.history.proofs.Looking.{seen_from}
use Rattle.history.proofs.Nests.{matching, nest_matching}
use Rattle.history.proofs.seeing_stands.Goals as goal

pub returns : goal.returns
returns c = record { seen = seen_from; counts = open_counts; matching = matching; nest = nest_matching }
