use Rattle.std.proofs.Common.{arith}
use Rattle.std.proofs.lemmas.Int.{ints, clamps}
use Rattle.kinds.specs.MarginLaws.{same}
use Rattle.kinds.proofs.margin.MarginTruthKind.or.Goals as goal

pub returns : goal.returns
returns c = record { value = same _ _ (omega (arith, ints, clamps)) }
