use mathlib.Core.Path.{fun_ext}
use Rattle.kinds.proofs.Word.{bit_or_lem}
use Rattle.kinds.proofs.zones.ZonesTruthKind.or.Goals as goal

pub returns : goal.returns
returns c = record { value = fun_ext (λ z. bit_or_lem c.args.self.0 c.args.other.0 z.index) }
