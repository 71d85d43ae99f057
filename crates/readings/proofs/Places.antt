-- What stands at a number in the lists that sources mean.
use Rattle.std.proofs.Common.{◌≡◌, ℕ, zero, suc, ◌/◌, ◌^◌, ◌<◌, ◌==◌, nat_lt, List, [], ◌∷◌, Some, None, Option, sym, refl, ap, ◌∙◌, zero-add, arith}
use Rattle.std.specs.Prelude.{is_some, IfSome, option_and_then}
use Rattle.std.specs.Option.{option_map}
use lib.Bits.{bit_and}
use Rattle.std.proofs.lemmas.Bool.Decides.{nat_tests}
use Rattle.std.proofs.lemmas.List.FromFn.{get_or-map-range_with_len}
use Rattle.std.proofs.lemmas.Option.{slice_get-get_or, slice_get_past}
use Rattle.std.specs.List.{slice_get}
use Rattle.kinds.specs.Two.{two_means}
use Rattle.kinds.specs.Zones.{bit}
use Rattle.kinds.specs.declared.two.Two.{Two}
use Rattle.maps.specs.AtZone.{two_of}
use Rattle.maps.proofs.Bits.{of_bit}
use Rattle.readings.specs.Few.{length_bits}
use Rattle.readings.specs.Lists.{bits, paired}

-- the predicates of a word
pub slice_get_bits : (w n : ℕ) (r : Option Two) → is_some r ≡ nat_lt n 64 → IfSome r (λ x. two_means x ≡ (bit_and (w / 2 ^ n) 1 == 1)) → r ≡ slice_get (bits w) n
unfolding bits
slice_get_bits w n None e f = sym (slice_get_past (bits w) n (let long = length_bits w in grind (arith, nat_tests)))
slice_get_bits w n (Some x) e f =
    let below : n < 64 = grind (arith, nat_tests) in
    let predicate : ℕ → Two = λ k. two_of (bit w k) in
    let long = length_bits w in
    sym (slice_get-get_or (bits w) n x (omega arith) ∙ ap Some (get_or-map-range_with_len predicate 0 64 n n x below (zero-add n) ∙ sym (of_bit w n x f)))

none_after : {X Y : Type 0} (o : Option X) → None ≡ option_and_then {T = X} {U = Y} (λ x. None) o
none_after None = refl
none_after (Some x) = refl

-- two lists side by side
pub slice_get_paired : {X Y : Type 0} (xs : List X) (ys : List Y) (n : ℕ)
    → slice_get (paired xs ys) n ≡ option_and_then (λ x. option_map (λ y. record { first = x; second = y }) (slice_get ys n)) (slice_get xs n)
slice_get_paired [] ys n = refl
slice_get_paired (x ∷ xs) [] zero = refl
slice_get_paired (x ∷ xs) [] (suc n) = none_after (slice_get xs n)
slice_get_paired (x ∷ xs) (y ∷ ys) zero = refl
slice_get_paired (x ∷ xs) (y ∷ ys) (suc n) = slice_get_paired xs ys n
