use mathlib.Core.Path.{fun_ext}
use Rattle.std.proofs.Common.{not, ap, ◌∙◌, arith}
use Rattle.kinds.proofs.Word.{bit_none, bit_not}
use Rattle.kinds.proofs.zones.ZonesTruthKind.truth.Goals as goal

pub returns : goal.returns
returns c = record { value = fun_ext (λ z. bit_not 64 0 z.index (omega arith) z.below ∙ ap not (bit_none z.index)) }
