-- The sign of the lesser, the greater and the opposite of numbers, as the impl of the map to signs has to show.
use Rattle.std.specs.Prelude.{◌≡◌, zero, suc, ℤ, pos, negsuc, neg_ℤ, ◌≤ℤ◌, refl}
use Rattle.std.proofs.Common.{sym, ◌∙◌, arith}
use Rattle.std.specs.Int.{int_min, int_max}
use Rattle.std.proofs.lemmas.Int.{by_lt_z, ints, clamps}
use Rattle.kinds.specs.Three.{opposite, lesser, greater}
use Rattle.kinds.specs.ThreeLaws.{three_laws}
use Rattle.maps.specs.Sign.{sign_of}

pub sign_not : (a : ℤ) → sign_of (neg_ℤ a) ≡ opposite (sign_of a)
sign_not (pos zero) = refl
sign_not (pos (suc n)) = refl
sign_not (negsuc n) = refl

-- signs keep the order
below : (a b : ℤ) → a ≤ℤ b → (lesser (sign_of a) (sign_of b) ≡ sign_of a) × (greater (sign_of a) (sign_of b) ≡ sign_of b)
below (negsuc m) b h = (refl, refl)
below (pos zero) (pos zero) h = (refl, refl)
below (pos zero) (pos (suc n)) h = (refl, refl)
below (pos zero) (negsuc n) h = absurd (omega (arith, ints))
below (pos (suc m)) (pos zero) h = absurd (omega (arith, ints))
below (pos (suc m)) (pos (suc n)) h = (refl, refl)
below (pos (suc m)) (negsuc n) h = absurd (omega (arith, ints))

pub sign_lesser : (a b : ℤ) → sign_of (int_min a b) ≡ lesser (sign_of a) (sign_of b)
sign_lesser a b = by_lt_z b a
    (λ h. let e : int_min a b ≡ b = omega (arith, ints, clamps) in rw e (sym (three_laws.and_comm (sign_of a) (sign_of b) ∙ (below b a (omega (arith, ints))).0)))
    (λ h. let e : int_min a b ≡ a = omega (arith, ints, clamps) in rw e (sym (below a b h).0))

pub sign_greater : (a b : ℤ) → sign_of (int_max a b) ≡ greater (sign_of a) (sign_of b)
sign_greater a b = by_lt_z b a
    (λ h. let e : int_max a b ≡ a = omega (arith, ints, clamps) in rw e (sym (three_laws.or_comm (sign_of a) (sign_of b) ∙ (below b a (omega (arith, ints))).1)))
    (λ h. let e : int_max a b ≡ b = omega (arith, ints, clamps) in rw e (sym (below a b h).1))
