-- Spelling a number from its last digit to its first.
use Rattle.std.proofs.Common.{◌≡◌, ℕ, zero, suc, ◌+◌, ◌-◌, ◌/◌, ◌%◌, ◌^◌, ◌<◌, ◌≤◌, List, [], ◌∷◌, ◌++◌, length, drop, set, decimal, sym, refl, ap, ◌∙◌, inl, inr, append_assoc, arith, length-append, length-drop}
use Rattle.std.proofs.lemmas.Fmt.{decimal_digit, decimal_step, decimal_nonempty, length-decimal-le}
use Rattle.std.proofs.lemmas.List.{drop-set}
use Rattle.std.proofs.lemmas.Bool.{cases_lt}

-- the digits that are still to be written, where none are left at 0
abbrev pub front : ℕ → List ℕ
front zero = []
front (suc n) = decimal (suc n)

front_some : (n : ℕ) → 0 < n → front n ≡ decimal n
front_some zero h = absurd (omega arith)
front_some (suc n) h = refl

pub decimal_front : (n : ℕ) → n < 2 ^ 64 → decimal n ≡ front (n / 10) ++ ((48 + n % 10) ∷ [])
decimal_front n small = elim (cases_lt n 10) [
  | inl h ↦
      let none : n / 10 ≡ 0 = omega arith in
      let whole : n % 10 ≡ n = omega arith in
      rw (none, whole) (decimal_digit n h)
  | inr h ↦ rw (front_some (n / 10) (omega arith)) (decimal_step n h small)
]

-- one digit more
pub spell_more : (n from : ℕ) (digits whole : List ℕ) → 0 < n → n < 2 ^ 64 → 0 < from → from ≤ length digits → front n ++ drop from digits ≡ whole → front (n / 10) ++ drop (from - 1) (set digits (from - 1) (48 + n % 10)) ≡ whole
spell_more n from digits whole some small inside within so =
    let last : from - 1 + 1 ≡ from = omega arith in
    let digit : drop (from - 1) (set digits (from - 1) (48 + n % 10)) ≡ (48 + n % 10) ∷ drop from digits = drop-set digits (from - 1) (48 + n % 10) (omega arith) ∙ ap (λ k. (48 + n % 10) ∷ drop k digits) last in
    rw digit (sym (append_assoc (front (n / 10)) ((48 + n % 10) ∷ []) (drop from digits)) ∙ ap (λ f. f ++ drop from digits) (sym (front_some n some ∙ decimal_front n small)) ∙ so)

-- there is room while digits are left
pub spell_room : (n from m : ℕ) (digits : List ℕ) → 0 < n → n < 2 ^ 64 → m < 2 ^ 64 → from ≤ length digits → length digits ≡ 20 → front n ++ drop from digits ≡ decimal m → 0 < from
spell_room n from m digits some small less within long so =
    let most = length-decimal-le 20 m (omega arith) (omega arith) less in
    let least = decimal_nonempty n small in
    let count = simp (length-append, length-drop, front_some n some) at (ap length so) in
    omega arith
