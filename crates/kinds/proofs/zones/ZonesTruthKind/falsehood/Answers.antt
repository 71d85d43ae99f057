use mathlib.Core.Path.{fun_ext}
use Rattle.kinds.proofs.Word.{bit_none}
use Rattle.kinds.proofs.zones.ZonesTruthKind.falsehood.Goals as goal

pub returns : goal.returns
returns c = record { value = fun_ext (λ z. bit_none z.index) }
