-- How long a laid out text is at most: 17 bytes for two words, less 5.
use Rattle.std.proofs.Common.{◌≡◌, ℕ, suc, ◌+◌, ◌*◌, ◌≤◌, List, [], ◌∷◌, ◌++◌, length, subst, arith, length-append}
use Rattle.words.specs.Words.{spell, Listed}
use Rattle.words.specs.declared.Operands.{Operands}
use Rattle.words.specs.declared.Operands.TheVariants.{Zero, One, Two}
use Rattle.words.specs.declared.Word.{Word}
use Rattle.words.proofs.Spelling.{longest, spell_room}
use Rattle.grammar.specs.Grammar.{Tree, leaf, one, two, takes, rule, unit}
use Rattle.grammar.specs.Layout.{layout}
use Rattle.grammar.specs.Nodes.{size}
use Rattle.writer.proofs.Proper.{Proper}
use Rattle.writer.proofs.Spelling.{text_of}

word_length : (w : Word) (k : Operands) → Listed w → takes w ≡ k → length (spell w) ≤ longest k
word_length w k h e = let P : Operands → Type 0 = λ o. length (spell w) ≤ longest o in subst P e (spell_room w h)

-- the length of bytes with a space behind them, and others
length_spaced : (ls bs : List ℕ) → length (ls ++ 32 ∷ bs) ≡ length ls + length bs + 1
length_spaced ls bs = omega (arith, length-append ls (32 ∷ bs))

unit_length : (t : Tree) (d : ℕ) → Proper d unit t → 2 * length (text_of unit t) + 5 ≤ 17 * size t
unfolding layout
unit_length (leaf w) d P = omega (arith, word_length w Zero P.0 P.1)
unit_length (one w t) d P =
    let h = unit_length t (suc d) P.3 in
    omega (arith, word_length w One P.0 P.1, length_spaced (spell w) (text_of unit t))
unit_length (two w l r) d P =
    let h = unit_length l (suc d) P.2 in
    let k = unit_length r (suc d) P.3 in
    omega (arith, word_length w Two P.0 P.1, length_spaced (spell w) (text_of unit r), length_spaced (text_of unit l) (spell w ++ 32 ∷ text_of unit r), length-append (text_of unit l ++ 32 ∷ (spell w ++ 32 ∷ text_of unit r)) (41 ∷ []))

pub rule_length : (t : Tree) (d : ℕ) → Proper d rule t → 2 * length (layout t) + 5 ≤ 17 * size t
unfolding layout
rule_length (leaf w) d P = unit_length (leaf w) d P
rule_length (one w t) d P = unit_length (one w t) d P
rule_length (two w l r) d P =
    let h = unit_length l d P.2 in
    let k = unit_length r d P.3 in
    omega (arith, word_length w Two P.0 P.1, length_spaced (spell w) (text_of unit r), length_spaced (text_of unit l) (spell w ++ 32 ∷ text_of unit r))
