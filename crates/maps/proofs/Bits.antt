-- A two-valued value made of one bit of a word.
use Rattle.std.proofs.Common.{◌≡◌, ℕ, ◌/◌, ◌^◌, ◌==◌, refl, sym, ap, ◌∙◌}
use lib.Bits.{bit_and}
use Rattle.std.proofs.lemmas.Nat.Bits.{shr_and_one}
use Rattle.kinds.specs.Two.{two_means}
use Rattle.kinds.specs.Zones.{bit}
use Rattle.kinds.specs.declared.two.Two.{Two}
use Rattle.kinds.specs.declared.two.Two.TheVariants.{No, Yes}
use Rattle.maps.specs.AtZone.{two_of}

two_of-means : (x : Two) → two_of (two_means x) ≡ x
two_of-means No = refl
two_of-means Yes = refl

-- x is what the lowest bit of the shifted word says
pub of_bit : (w n : ℕ) (x : Two) → two_means x ≡ (bit_and (w / 2 ^ n) 1 == 1) → x ≡ two_of (bit w n)
unfolding bit
of_bit w n x e = sym (two_of-means x) ∙ ap two_of e ∙ ap (λ d. two_of (d == 1)) (shr_and_one w n)
