use Rattle.history.proofs.Prefix.{value_prefix}
use Rattle.history.proofs.Looking.{recurrences}
use Rattle.history.proofs.looking_back_stands.Goals as goal

pub returns : goal.returns
returns g c = record { prefix = value_prefix g.K.TruthKind.algebra; recurrences = recurrences g.K.TruthKind.algebra g.K.TruthKind.laws }
