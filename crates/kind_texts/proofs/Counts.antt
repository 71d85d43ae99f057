-- The counts of a zone word, as its meaning has them and as the word's bits give them.
use Rattle.std.proofs.Common.{◌≡◌, ℕ, zero, suc, ◌+◌, ◌-◌, ◌/◌, ◌%◌, ◌^◌, ◌<◌, ◌≤◌, Bool, true, false, cond, not, eqb, count_by, sym, refl, ap, ◌∙◌, subst, true≢false, div-one, arith, shr-shr, shr_lt}
use mathlib.Core.Bool.{false≢true}
use lib.Count.{ones, under, count_trailing_zeros, ones_step, ones-le}
use Rattle.std.specs.List.{prefix_len}
use Rattle.std.proofs.lemmas.List.Sums.{sum_by-cons}
use Rattle.std.proofs.lemmas.Bool.Decides.{nat_tests}
use Rattle.kinds.specs.Zones.{Zone, bit}
use Rattle.kinds.proofs.Word.{bit_not}
use Rattle.kind_texts.specs.Zones.{zones_from, every, first_within, rest_within, all_within, counted_text, zone_text}

digit : (d : ℕ) → d < 2 → cond (eqb d 1) 1 0 ≡ d
digit d h = grind (arith, nat_tests)

-- the zones from i on that hold are the ones of the bits from i on
counted : (k i n : ℕ) (h : i + k ≤ 64) → n < 2 ^ (k + i) → count_by (λ z. bit n z.index) (zones_from i k h) ≡ ones (n / 2 ^ i)
unfolding zones_from bit
counted zero i n h small =
    let none : n / 2 ^ i < 1 = shr_lt 0 i small in
    omega (arith, ones-le 0 (n / 2 ^ i) none)
counted (suc k) i n h small =
    let more : suc k + i ≡ k + (i + 1) = omega arith in
    let less : n < 2 ^ (k + (i + 1)) = subst (λ (e : ℕ). n < 2 ^ e) more small in
    let zone : Zone = record { index = i; below = first_within i k h } in
    let rest = zones_from (i + 1) k (rest_within i k h) in
    sum_by-cons (λ (z : Zone). cond (bit n z.index) 1 0) zone rest
    ∙ ap (λ m. cond (bit n i) 1 0 + m) (counted k (i + 1) n (rest_within i k h) less ∙ ap ones (sym (shr-shr n i 1)))
    ∙ ap (λ d. d + ones (n / 2 ^ i / 2)) (digit (n / 2 ^ i % 2) (omega arith))
    ∙ sym (ones_step (n / 2 ^ i))

under_is : (b : Bool) (d t : ℕ) → d < 2 → eqb d 1 ≡ not b → cond b (1 + t) 0 ≡ under d t
under_is true zero t h e = omega arith
under_is false zero t h e = absurd (false≢true e)
under_is true (suc zero) t h e = absurd (true≢false e)
under_is false (suc zero) t h e = refl
under_is b (suc (suc d)) t h e = absurd (omega arith)

-- the zones from i on that hold before one does not are the zeros below the lowest one of the complement's bits from i on
led : (k i n : ℕ) (h : i + k ≤ 64) → n < 2 ^ 64 → prefix_len (λ z. bit n z.index) (zones_from i k h) ≡ count_trailing_zeros k ((2 ^ 64 - 1 - n) / 2 ^ i)
unfolding zones_from count_trailing_zeros bit
led zero i n h small = refl
led (suc k) i n h small =
    let m = (2 ^ 64 - 1 - n) / 2 ^ i in
    ap (λ t. cond (bit n i) (1 + t) 0) (led k (i + 1) n (rest_within i k h) small ∙ ap (count_trailing_zeros k) (sym (shr-shr (2 ^ 64 - 1 - n) i 1)))
    ∙ under_is (bit n i) (m % 2) (count_trailing_zeros k (m / 2)) (omega arith) (bit_not 64 n i small (first_within i k h))

count_ones : (n : ℕ) → n < 2 ^ 64 → ones n ≡ count_by (λ z. bit n z.index) every
unfolding every
count_ones n small = sym (counted 64 0 n all_within small ∙ ap ones (div-one n))

lowest_unset : (n : ℕ) → n < 2 ^ 64 → count_trailing_zeros 64 (2 ^ 64 - 1 - n) ≡ prefix_len (λ z. bit n z.index) every
unfolding every
lowest_unset n small = sym (led 64 0 n all_within small ∙ ap (count_trailing_zeros 64) (div-one (2 ^ 64 - 1 - n)))

pub counts_text : (n : ℕ) → n < 2 ^ 64 → counted_text (ones n) (count_trailing_zeros 64 (2 ^ 64 - 1 - n)) ≡ zone_text (λ z. bit n z.index)
counts_text n small = rw (count_ones n small, lowest_unset n small)
