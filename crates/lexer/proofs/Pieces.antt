-- The first piece of a text, by the class of its first byte.
use Rattle.std.proofs.Common.{◌≡◌, ℕ, suc, ◌+◌, ◌<◌, Bool, true, false, cond, eqb, List, [], ◌∷◌, length, get_or, take, drop, sym, refl, ap, ◌∙◌, ap₂, ⊎_elim, add-zero, add-one, one-add, arith, length-drop}
use Rattle.std.specs.List.{prefix_len}
use Rattle.std.proofs.lemmas.List.{drop_more, drop-drop, get_or-drop}
use Rattle.std.proofs.lemmas.List.Sums.{prefix_len_stops}
use Rattle.std.proofs.lemmas.Bool.{cond-true, cond-false, cases_Bool, eqb-true, eqb-false}
use Rattle.std.proofs.lemmas.Bool.Decides.{nat_tests}
use Rattle.grammar.specs.Lexemes.{Class, space, letter, is_letter, class, starts_run, Lexeme, run, Placed, with_byte, on_first, longer, lexemes}

abbrev pub at_place : ℕ → Lexeme → Placed
at_place i x = record { place = i; lexeme = x }

-- a byte of a known class, and what is behind it
lexemes_cons : (i b : ℕ) (bs : List ℕ) (k : Class) → class b ≡ k → lexemes i (b ∷ bs) ≡ with_byte k i b bs (lexemes (suc i) bs)
unfolding lexemes
lexemes_cons i b bs k e = ap (λ x. with_byte x i b bs (lexemes (suc i) bs)) e

-- the same at a place of a text
pub at_class : (text : List ℕ) (i : ℕ) (k : Class) → i < length text → class (get_or text i 0) ≡ k → lexemes i (drop i text) ≡ with_byte k i (get_or text i 0) (drop (i + 1) text) (lexemes (i + 1) (drop (i + 1) text))
at_class text i k h e =
    ap (lexemes i) (drop_more text i 0 h) ∙ lexemes_cons i (get_or text i 0) (drop (i + 1) text) k e
    ∙ ap (λ j. with_byte k i (get_or text i 0) (drop (i + 1) text) (lexemes j (drop (i + 1) text))) (sym (add-one i))

-- over spaces, as many as there are
abbrev pub spaces : List ℕ → ℕ
spaces bs = prefix_len (λ b. eqb b 32) bs

over_front : (i : ℕ) (bs : List ℕ) → lexemes (i + spaces bs) (drop (spaces bs) bs) ≡ lexemes i bs
over_front i [] = ap (λ j. lexemes j []) (add-zero i)
over_front i (b ∷ bs) = go (over_front (suc i) bs) (eqb b 32) refl
  where
    go : lexemes (suc i + spaces bs) (drop (spaces bs) bs) ≡ lexemes (suc i) bs → (t : Bool) → eqb b 32 ≡ t → lexemes (i + cond t (1 + spaces bs) 0) (drop (cond t (1 + spaces bs) 0) (b ∷ bs)) ≡ lexemes i (b ∷ bs)
    go rest true e =
        let n : i + (1 + spaces bs) ≡ suc i + spaces bs = omega arith in
        ap₂ (λ j k. lexemes j (drop k (b ∷ bs))) n (one-add (spaces bs)) ∙ rest
        ∙ sym (lexemes_cons i b bs space (ap class (eqb-true b 32 e)))
    go rest false e = ap (λ j. lexemes j (b ∷ bs)) (add-zero i)

pub over_spaces : (text : List ℕ) (i end : ℕ) → end ≡ i + spaces (drop i text) → lexemes end (drop end text) ≡ lexemes i (drop i text)
over_spaces text i end e =
    let k : ℕ = spaces (drop i text) in
    ap (λ n. lexemes n (drop n text)) e ∙ ap (lexemes (i + k)) (sym (drop-drop k i text)) ∙ over_front i (drop i text)

pub past_spaces : (text : List ℕ) (i end : ℕ) → end ≡ i + spaces (drop i text) → end < length text → get_or text end 0 ≡ 32 → ⊥
past_spaces text i end e l =
    let k : ℕ = spaces (drop i text) in
    let more : k < length (drop i text) = omega (arith, length-drop i text) in
    let same : get_or (drop i text) k 0 ≡ get_or text end 0 = get_or-drop i text k 0 ∙ ap (λ n. get_or text n 0) (sym e) in
    eqb-false (get_or text end 0) 32 (ap (λ b. eqb b 32) (sym same) ∙ prefix_len_stops (λ b. eqb b 32) (drop i text) 0 more)

-- how many letters and digits the bytes begin with
abbrev pub letters : List ℕ → ℕ
letters bs = prefix_len is_letter bs

-- a letter or digit is none of the other classes
class_letter : (b : ℕ) → is_letter b ≡ true → class b ≡ letter
class_letter b e = grind (arith, nat_tests)

-- a run that starts with the letter b and goes on with the first m of the bytes behind it
abbrev pub run_then : ℕ → ℕ → List ℕ → ℕ → List Placed
run_then i b bs m = at_place i (run (b ∷ take m bs)) ∷ lexemes (suc i + m) (drop m bs)

run_alone : (i b : ℕ) (bs : List ℕ) → is_letter b ≡ true → starts_run bs ≡ false → lexemes i (b ∷ bs) ≡ run_then i b bs 0
run_alone i b bs e f =
    lexemes_cons i b bs letter (class_letter b e) ∙ cond-false (starts_run bs) _ _ f
    ∙ ap (λ j. at_place i (run (b ∷ [])) ∷ lexemes j bs) (sym (add-zero (suc i)))

run_longer : (i b c n : ℕ) (cs : List ℕ) → is_letter b ≡ true → is_letter c ≡ true → lexemes (suc i) (c ∷ cs) ≡ run_then (suc i) c cs n → lexemes i (b ∷ (c ∷ cs)) ≡ run_then i b (c ∷ cs) (suc n)
run_longer i b c n cs e f h =
    let j : suc (suc i) + n ≡ suc i + suc n = omega arith in
    lexemes_cons i b (c ∷ cs) letter (class_letter b e) ∙ cond-true (is_letter c) _ _ f ∙ ap (on_first (longer i b)) h
    ∙ ap (λ k. at_place i (run (b ∷ (c ∷ take n cs))) ∷ lexemes k (drop n cs)) j

-- the run that begins with a letter: it goes on as long as letters follow
pub run_first : (i b : ℕ) (bs : List ℕ) → is_letter b ≡ true → lexemes i (b ∷ bs) ≡ run_then i b bs (letters bs)
run_first i b [] e = run_alone i b [] e refl
run_first i b (c ∷ cs) e =
    ⊎_elim
    (λ f. run_longer i b c (letters cs) cs e f (run_first (suc i) c cs f) ∙ ap (run_then i b (c ∷ cs)) (sym (cond-true (is_letter c) _ _ f ∙ one-add (letters cs))))
    (λ f. run_alone i b (c ∷ cs) e f ∙ ap (run_then i b (c ∷ cs)) (sym (cond-false (is_letter c) _ _ f)))
    (cases_Bool (is_letter c))
