-- The pieces of a laid out text are the tokens of its tree.
use Rattle.std.proofs.Common.{◌≡◌, ℕ, suc, ◌<◌, true, false, List, [], ◌∷◌, ◌++◌, length, sym, refl, ap, ◌∙◌, subst, append_assoc, append-nil, arith}
use Rattle.std.proofs.lemmas.Bool.{cond-true, cond-false}
use Rattle.std.proofs.lemmas.Bool.Decides.{nat_tests}
use Rattle.words.specs.Words.{spell, Listed, Names}
use Rattle.words.proofs.Spelling.{Lettered, spell_letters, spell_some}
use Rattle.words.specs.declared.Word.{Word}
use Rattle.grammar.specs.Grammar.{Tree, leaf, one, two, Part, rule, unit}
use Rattle.grammar.specs.Layout.{layout, as_operand}
use Rattle.grammar.specs.Lexemes.{Class, letter, class, is_letter, starts_run, lexemes, run, Placed, means_open, means_close, means_word, Spells, none, more, with_byte, on_first, longer}
use Rattle.grammar.specs.declared.Token.{Token}
use Rattle.grammar.specs.declared.Token.TheVariants.{Open, Close, Word as word}
use Rattle.writer.proofs.Proper.{Proper, tokens_of}

letter_class : (b : ℕ) → is_letter b ≡ true → class b ≡ letter
letter_class b h = grind (arith, nat_tests)

-- a run of letters that ends where the text ends or goes on with another byte is one piece
one_run : (bs cs : List ℕ) (at b : ℕ) → Lettered (b ∷ bs) → starts_run cs ≡ false → (k : ℕ) × (lexemes at (b ∷ bs ++ cs) ≡ record { place = at; lexeme = run (b ∷ bs) } ∷ lexemes k cs)
unfolding lexemes
one_run [] cs at b h e =
    let rest = lexemes (suc at) cs in
    let f : Class → List Placed = λ k. with_byte k at b cs rest in
    (suc at, ap f (letter_class b h.0) ∙ cond-false (starts_run cs) _ _ e)
one_run (c ∷ bs) cs at b h e =
    let rest = lexemes (suc at) (c ∷ bs ++ cs) in
    let f : Class → List Placed = λ k. with_byte k at b (c ∷ bs ++ cs) rest in
    let (k, is) = one_run bs cs (suc at) c h.1 e in
    (k, ap f (letter_class b h.0) ∙ cond-true (is_letter c) _ _ h.1.0 ∙ ap (on_first (longer at b)) is)

-- the pieces of the bytes are the tokens, wherever they stand
abbrev Spelled : List ℕ → List Token → Type 0
Spelled bs ts = (at : ℕ) → Spells (lexemes at bs) ts

-- in front of any bytes that do not begin with a letter, the bytes bs are the tokens ts
abbrev Fronts : List ℕ → List Token → Type 0
Fronts bs ts = (cs : List ℕ) (us : List Token) → starts_run cs ≡ false → Spelled cs us → Spelled (bs ++ cs) (ts ++ us)

fronts_run : (bs : List ℕ) (w : Word) → 0 < length bs → Lettered bs → Names bs w → Fronts bs (word w ∷ [])
fronts_run [] w some h n cs us e S at = absurd (omega arith)
fronts_run (b ∷ bs) w some h n cs us e S at =
    let (k, eq) = one_run bs cs at b h e in
    let P : List Placed → Type 0 = λ xs. Spells xs (word w ∷ us) in
    subst P (sym eq) (more (means_word n) (S k))

fronts_word : (w : Word) → Listed w → Fronts (spell w) (word w ∷ [])
fronts_word w h = fronts_run (spell w) w (spell_some w) (spell_letters w h) (record { listed = h; spelled = refl })

fronts_spaced : (ls bs : List ℕ) (ts us : List Token) → Fronts ls ts → Fronts bs us → Fronts (ls ++ 32 ∷ bs) (ts ++ us)
unfolding lexemes
fronts_spaced ls bs ts us A B cs vs e S =
    rw (append_assoc ls (32 ∷ bs) cs, append_assoc ts us vs) (A (32 ∷ bs ++ cs) (us ++ vs) refl (λ at. B cs vs e S (suc at)))

fronts_one : (w : Word) (bs : List ℕ) (us : List Token) → Listed w → Fronts bs us → Fronts (spell w ++ 32 ∷ bs) (word w ∷ us)
fronts_one w bs us h B = fronts_spaced (spell w) bs (word w ∷ []) us (fronts_word w h) B

fronts_parens : (bs : List ℕ) (ts : List Token) → Fronts bs ts → Fronts (40 ∷ (bs ++ 41 ∷ [])) (Open ∷ (ts ++ Close ∷ []))
unfolding lexemes
fronts_parens bs ts B cs us e S at =
    rw (append_assoc bs (41 ∷ []) cs, append_assoc ts (Close ∷ []) us) (more means_open (B (41 ∷ cs) (Close ∷ us) refl (λ k. more means_close (S (suc k))) (suc at)))

-- the text of a tree as laid out
abbrev pub text_of : Part → Tree → List ℕ
text_of rule t = layout t
text_of unit t = as_operand t (layout t)

fronts_unit : (t : Tree) (d : ℕ) → Proper d unit t → Fronts (text_of unit t) (tokens_of unit t)
unfolding layout
fronts_unit (leaf w) d P = fronts_word w P.0
fronts_unit (one w t) d P = fronts_one w _ _ P.0 (fronts_unit t (suc d) P.3)
fronts_unit (two w l r) d P =
    fronts_parens _ _ (fronts_spaced _ _ _ _ (fronts_unit l (suc d) P.2) (fronts_one w _ _ P.0 (fronts_unit r (suc d) P.3)))

fronts_rule : (t : Tree) (d : ℕ) → Proper d rule t → Fronts (text_of rule t) (tokens_of rule t)
unfolding layout
fronts_rule (leaf w) d P = fronts_unit (leaf w) d P
fronts_rule (one w t) d P = fronts_unit (one w t) d P
fronts_rule (two w l r) d P = fronts_spaced _ _ _ _ (fronts_unit l d P.2) (fronts_one w _ _ P.0 (fronts_unit r d P.3))

pub spelled_layout : (t : Tree) (d : ℕ) → Proper d rule t → Spells (lexemes 0 (layout t)) (tokens_of rule t)
unfolding lexemes
spelled_layout t d P = simp append-nil at (fronts_rule t d P [] [] refl (λ at. none) 0)
