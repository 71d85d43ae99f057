-- The bits of a word under the bitwise operations.
use Rattle.std.proofs.Common.{◌≡◌, ℕ, zero, suc, ◌-◌, ◌/◌, ◌^◌, ◌<◌, false, not, ◌&&◌, ◌||◌, ◌==◌, ap, arith}
use native.Mathlib.Nat.{pow-succ'}
use lib.Bits.{bit_and, bit_or}
use Rattle.std.proofs.lemmas.Bool.Decides.{nat_tests}
use Rattle.std.proofs.lemmas.Nat.Bits.{bit_at_lowest, bit_at-suc, bit_at-zero, bit_at_and, bit_at_or}
use Rattle.kinds.specs.Zones.{bit}

pub bit_and_lem : (a b i : ℕ) → bit (bit_and a b) i ≡ (bit a i && bit b i)
unfolding bit
bit_and_lem a b i = let e = bit_at_and a b i in grind (arith, nat_tests)

pub bit_or_lem : (a b i : ℕ) → bit (bit_or a b) i ≡ (bit a i || bit b i)
unfolding bit
bit_or_lem a b i = let e = bit_at_or a b i in grind (arith, nat_tests)

-- a word of no ones
pub bit_none : (i : ℕ) → bit 0 i ≡ false
unfolding bit
bit_none i = ap (λ d. d == 1) (bit_at-zero i)

-- the bits of the complement at a width k
pub bit_not : (k n i : ℕ) → n < 2 ^ k → i < k → bit (2 ^ k - 1 - n) i ≡ not (bit n i)
unfolding bit
bit_not zero n i small within = absurd (omega arith)
bit_not (suc k) n zero small within =
    let p = pow-succ' 2 k in
    rw (bit_at_lowest (2 ^ suc k - 1 - n), bit_at_lowest n) (grind (arith, nat_tests))
bit_not (suc k) n (suc i) small within =
    let p = pow-succ' 2 k in
    let half : (2 ^ suc k - 1 - n) / 2 ≡ 2 ^ k - 1 - n / 2 = omega arith in
    rw (bit_at-suc (2 ^ suc k - 1 - n) i, bit_at-suc n i, half) (bit_not k (n / 2) i (omega arith) (omega arith))
