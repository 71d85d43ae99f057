use mathlib.Core.Path.{fun_ext}
use Rattle.std.proofs.Common.{rules}
use Rattle.kinds.proofs.Word.{bit_not}
use Rattle.kinds.proofs.zones.ZonesTruthKind.not.Goals as goal

pub returns : goal.returns
returns c = record { value = fun_ext (λ z. bit_not 64 c.args.self.0 z.index (search rules) z.below) }
