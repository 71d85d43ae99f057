-- The loop that reads a number digit by digit, as a function of the digits that are left.
--   read_on high n ds      n followed by the digits ds, if it stays at most `high`
use Rattle.std.proofs.Common.{◌≡◌, ℕ, ◌+◌, ◌-◌, ◌*◌, ◌<◌, ◌≤◌, Bool, true, false, cond, ◌&&◌, leb, List, [], ◌∷◌, length, get_or, drop, Some, None, Option, sym, refl, ap, ◌∙◌, arith}
use Rattle.std.proofs.lemmas.List.{at_drop_more, at_drop_all}
use Rattle.std.proofs.lemmas.Bool.{and_parts, and_right, leb-true, leb-false, le-leb, lt-leb, le-ltb, lt-ltb}
use Rattle.std.specs.Str.Parse.{digits_value_after}
use Rattle.std.specs.Char.{is_ascii_digit, digit_value as value_of_digit}
use Rattle.std.specs.Str.{all_ascii_digits}
use Rattle.words.specs.Lookup.{with_digit, value_up_to}

abbrev pub read_on : ℕ → ℕ → List ℕ → Option ℕ
read_on high n [] = Some n
read_on high n (d ∷ ds) = elim (with_digit high n d) [ None ↦ None | Some m ↦ read_on high m ds ]

digit_value : (d : ℕ) → is_ascii_digit d ≡ true → value_of_digit d ≡ d - 48
digit_value d h =
    let p = and_parts (leb 48 d) (leb d 57) h in
    rw (le-ltb d 48 (leb-true 48 d p.0), lt-ltb d 58 (omega (arith, leb-true d 57 p.1)))

-- more digits never make the number less
value_ge : (n : ℕ) (ds : List ℕ) → n ≤ digits_value_after 10 n ds
value_ge n [] = omega arith
value_ge n (d ∷ ds) = omega (arith, value_ge (n * 10 + value_of_digit d) ds)

pub read_value : (high : ℕ) (ds : List ℕ) (n : ℕ) → n ≤ high → read_on high n ds ≡ cond (all_ascii_digits ds && leb (digits_value_after 10 n ds) high) (Some (digits_value_after 10 n ds)) None
read_value high [] n h = rw (le-leb n high h)
read_value high (d ∷ ds) n h = go (is_ascii_digit d) refl (leb (n * 10 + (d - 48)) high) refl (read_value high ds (n * 10 + (d - 48)))
  where
    go : (t : Bool) → is_ascii_digit d ≡ t → (s : Bool) → leb (n * 10 + (d - 48)) high ≡ s → (n * 10 + (d - 48) ≤ high → read_on high (n * 10 + (d - 48)) ds ≡ cond (all_ascii_digits ds && leb (digits_value_after 10 (n * 10 + (d - 48)) ds) high) (Some (digits_value_after 10 (n * 10 + (d - 48)) ds)) None) → elim (cond (t && s) (Some (n * 10 + (d - 48))) None) [ None ↦ None | Some m ↦ read_on high m ds ] ≡ cond ((t && all_ascii_digits ds) && leb (digits_value_after 10 (n * 10 + value_of_digit d) ds) high) (Some (digits_value_after 10 (n * 10 + value_of_digit d) ds)) None
    go true p true q later = rw (digit_value d p) (later (leb-true (n * 10 + (d - 48)) high q))
    go true p false q later =
        let over : high < digits_value_after 10 (n * 10 + (d - 48)) ds = omega (arith, leb-false (n * 10 + (d - 48)) high q, value_ge (n * 10 + (d - 48)) ds) in
        rw (digit_value d p, and_right (all_ascii_digits ds) (leb (digits_value_after 10 (n * 10 + (d - 48)) ds) high) (lt-leb (digits_value_after 10 (n * 10 + (d - 48)) ds) high over))
    go false p s q later = refl

module _ (high : ℕ) (ds : List ℕ) where
  whole : read_on high 0 ds ≡ value_up_to high ds
  whole = read_value high ds 0 (omega arith)

  -- one digit of those that are left
  step : (n i : ℕ) (r : Option ℕ) → i < length ds → with_digit high n (get_or ds i 0) ≡ r → read_on high n (drop i ds) ≡ elim r [ None ↦ None | Some m ↦ read_on high m (drop (i + 1) ds) ]
  step n i r l e = at_drop_more (read_on high n) ds i 0 l ∙ ap (λ (s : Option ℕ). elim s as (λ _. Option ℕ) [ None ↦ None | Some m ↦ read_on high m (drop (i + 1) ds) ]) e

  -- the loop's invariant, at its two ends
  pub read_stop : (n i : ℕ) → i < length ds → with_digit high n (get_or ds i 0) ≡ None → read_on high n (drop i ds) ≡ read_on high 0 ds → None ≡ value_up_to high ds
  read_stop n i l e inv = sym (step n i None l e) ∙ inv ∙ whole

  pub read_all : (n i : ℕ) → length ds ≤ i → read_on high n (drop i ds) ≡ read_on high 0 ds → Some n ≡ value_up_to high ds
  read_all n i l inv = sym (at_drop_all (read_on high n) ds i l) ∙ inv ∙ whole
