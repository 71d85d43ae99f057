-- Texts by their pieces and how long they are, as the impls of texts have to show.
use Rattle.std.specs.Prelude.{◌≡◌, ℕ, zero, suc, ◌+◌, ◌/◌, ◌%◌, ◌^◌, ◌<◌, ◌≤◌, Bool, length, ℤ, pos, negsuc, neg_ℤ, ◌≤ℤ◌, codes, decimal, count_by, ◌==◌, ◌≢◌, unsigned_abs, refl}
use Rattle.std.proofs.Common.{sym, ap, arith, length-append}
use Rattle.std.proofs.lemmas.Fmt.{length-decimal-le}
use Rattle.std.specs.List.{prefix_len}
use Rattle.std.proofs.lemmas.Int.{ints}
use Rattle.std.proofs.lemmas.List.Sums.{count_by-le-length, prefix_len-le-length}
use Rattle.std.proofs.lemmas.Bool.{cond_both, cond-true, cond-false, eq-eqb, ne_eqb}
use Rattle.kinds.specs.Margin.{Held, end}
use Rattle.kinds.specs.Zones.{Zone}
use Rattle.kind_texts.specs.Margin.{sign, tenths, tenths_text, margin_text}
use Rattle.kind_texts.specs.Zones.{lowest_text, counted_text, zone_text, zones_from, every, rest_within, all_within}

length_sign : (z : ℤ) → length (sign z) ≤ 1
length_sign (pos n) = omega arith
length_sign (negsuc n) = omega arith

pub length_tenths : (z : ℤ) → unsigned_abs z < 10 ^ 7 → length (tenths_text z) ≤ 10
length_tenths z h =
    let before = length_sign z in
    let whole = length-decimal-le 7 (unsigned_abs z / 10) (omega arith) (omega arith) (omega arith) in
    let tenth = length-decimal-le 1 (unsigned_abs z % 10) (omega arith) (omega arith) (omega arith) in
    simp length-append (omega arith)

pub length_lowest : (n : ℕ) → n < 10 ^ 10 → length (lowest_text n) ≤ 10
length_lowest n h =
    let digits = length-decimal-le 10 n (omega arith) h (omega arith) in
    cond_both (n == 64) (codes "none") (decimal n) (λ t. length t ≤ 10) (λ _. omega arith) (λ _. digits)

pub length_counted : (n m : ℕ) → n < 10 ^ 10 → m < 10 ^ 10 → length (counted_text n m) ≤ 27
length_counted n m h k =
    let count = length-decimal-le 10 n (omega arith) h (omega arith) in
    let lowest = length_lowest m k in
    simp length-append (omega arith)

pub lowest_none : (n : ℕ) → n ≡ 64 → codes "none" ≡ lowest_text n
lowest_none n e = sym (cond-true (n == 64) (codes "none") (decimal n) (eq-eqb n 64 e))

pub lowest_some : (n : ℕ) → (n ≢ 64) → decimal n ≡ lowest_text n
lowest_some n e = sym (cond-false (n == 64) (codes "none") (decimal n) (ne_eqb n 64 e))

nat_abs_neg : (n : ℕ) → unsigned_abs (neg_ℤ (pos n)) ≡ n
nat_abs_neg zero = refl
nat_abs_neg (suc n) = refl

tenths_small : (z : ℤ) → neg_ℤ end ≤ℤ z → z ≤ℤ end → unsigned_abs (tenths z) < 10 ^ 7
tenths_small (pos n) low high = omega (arith, ints)
tenths_small (negsuc n) low high = rw (nat_abs_neg (suc n / 10)) (omega (arith, ints))

pub length_margin : (x : Held) → length (margin_text x) ≤ 32
length_margin x = omega (arith, length_tenths (tenths x.value) (tenths_small x.value x.low x.high))

length_zones_from : (k i : ℕ) (h : i + k ≤ 64) → length (zones_from i k h) ≡ k
unfolding zones_from
length_zones_from zero i h = refl
length_zones_from (suc k) i h = ap suc (length_zones_from k (i + 1) (rest_within i k h))

length_every : length every ≡ 64
unfolding every
length_every = length_zones_from 64 0 all_within

pub length_zone : (v : Zone → Bool) → length (zone_text v) ≤ 32
length_zone v =
    let whole = length_every in
    let count = count_by-le-length v every in
    let first = prefix_len-le-length v every in
    omega (arith, length_counted (count_by v every) (prefix_len v every) (omega arith) (omega arith))
