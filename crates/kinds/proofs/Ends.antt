-- Holding numbers within the ends of a margin keeps which is the lesser and which the greater.
use Rattle.std.proofs.Common.{◌≡◌, ℤ, arith}
use Rattle.std.specs.Int.{int_min, int_max}
use Rattle.std.proofs.lemmas.Int.{by_lt_z, ints, clamps}
use Rattle.kinds.specs.Margin.{held, lesser, greater}
use Rattle.kinds.specs.MarginLaws.{same}

held_lesser : (a b : ℤ) → held (int_min a b) ≡ lesser (held a) (held b)
held_lesser a b = same (held (int_min a b)) (lesser (held a) (held b)) (omega (arith, ints, clamps))

held_greater : (a b : ℤ) → held (int_max a b) ≡ greater (held a) (held b)
held_greater a b = same (held (int_max a b)) (greater (held a) (held b)) (by_lt_z a b
    (λ h. let e : int_max a b ≡ b = omega (arith, ints, clamps) in rw e (omega (arith, ints, clamps)))
    (λ h. let e : int_max a b ≡ a = omega (arith, ints, clamps) in rw e (omega (arith, ints, clamps))))

-- for a number r that the code found to be the lesser or the greater
pub means_lesser : (a b r : ℤ) → r ≡ int_min a b → held r ≡ lesser (held a) (held b)
means_lesser a b r e = rw e (held_lesser a b)

pub means_greater : (a b r : ℤ) → r ≡ int_max a b → held r ≡ greater (held a) (held b)
means_greater a b r e = rw e (held_greater a b)
