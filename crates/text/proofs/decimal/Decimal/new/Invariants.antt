use Rattle.std.proofs.Common.{◌≡◌, ◌^◌, ◌<◌, ◌≤◌, ◌++◌, length, drop, decimal}
use Rattle.text.proofs.Spelling.{front}
use Rattle.text.proofs.decimal.Decimal.new.Given as goal

abbrev pub invariant-loop-rest : goal.invariant-loop-rest
invariant-loop-rest l = (l.from ≤ 19) × (l.rest < 2 ^ 64) × (length l.digits ≡ 20) × (front l.rest ++ drop l.from l.digits ≡ decimal l.number)

abbrev pub decreases-loop-rest : goal.decreases-loop-rest
decreases-loop-rest l = l.rest
