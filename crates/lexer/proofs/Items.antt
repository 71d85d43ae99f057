-- The first item of what is left of a text, by the byte at its first place.
use Rattle.std.proofs.Common.{◌≡◌, ℕ, suc, ◌+◌, ◌-◌, ◌<◌, ◌≤◌, true, false, List, [], ◌∷◌, length, get_or, take, drop, Some, sym, ap, ◌∙◌, ap₂, arith}
use Rattle.std.specs.List.{prefix_len}
use Rattle.std.proofs.lemmas.List.{drop_more, drop_all, drop-drop}
use Rattle.std.proofs.lemmas.List.Sums.{prefix_len-drop_yes}
use Rattle.std.proofs.lemmas.Bool.Decides.{nat_tests}
use Rattle.words.specs.Words.{Names}
use Rattle.words.specs.Lookup.{lookup}
use Rattle.words.specs.declared.Word.{Word}
use Rattle.grammar.specs.Lexemes.{opening, closing, other, is_letter, class, Lexeme, opens, closes, run, stray, Placed, lexemes, Means, means_open, means_close, means_word}
use Rattle.grammar.specs.Machine.{Item, token, items, items_of, lexeme_item, word_item}
use Rattle.grammar.specs.declared.Token.{Token}
use Rattle.grammar.specs.declared.Token.TheVariants.{Open, Close, Word as word}
use Rattle.lexer.proofs.Pieces.{at_place, at_class, run_first, letters}

-- the items and the pieces from a place on
abbrev pub here : List ℕ → ℕ → List Item
here text i = items i (drop i text)

abbrev pub from : List ℕ → ℕ → List Placed
from text i = lexemes i (drop i text)

pub nothing_left : (text : List ℕ) (i : ℕ) → length text ≤ i → from text i ≡ []
unfolding lexemes
nothing_left text i h = ap (lexemes i) (drop_all i text h)

pub first_open : (text : List ℕ) (i : ℕ) → i < length text → get_or text i 0 ≡ 40 → from text i ≡ at_place i opens ∷ from text (i + 1)
first_open text i h e = at_class text i opening h (ap class e)

pub first_close : (text : List ℕ) (i : ℕ) → i < length text → get_or text i 0 ≡ 41 → from text i ≡ at_place i closes ∷ from text (i + 1)
first_close text i h e = at_class text i closing h (ap class e)

class_other : (b : ℕ) → (b ≡ 32 → ⊥) → (b ≡ 40 → ⊥) → (b ≡ 41 → ⊥) → is_letter b ≡ false → class b ≡ other
class_other b e f g l = grind (arith, nat_tests)

pub first_stray : (text : List ℕ) (i : ℕ) → i < length text → (get_or text i 0 ≡ 32 → ⊥) → (get_or text i 0 ≡ 40 → ⊥) → (get_or text i 0 ≡ 41 → ⊥) → is_letter (get_or text i 0) ≡ false → from text i ≡ at_place i (stray (get_or text i 0)) ∷ from text (i + 1)
first_stray text i h e f g l = at_class text i other h (class_other (get_or text i 0) e f g l)

-- a run of letters, up to its end
pub first_run : (text : List ℕ) (i end : ℕ) → i < length text → is_letter (get_or text i 0) ≡ true → end ≡ i + prefix_len is_letter (drop i text) → from text i ≡ at_place i (run (take (end - i) (drop i text))) ∷ from text end
first_run text i end h l e =
    let bs : List ℕ = drop (i + 1) text in
    let m : ℕ = letters bs in
    let b : ℕ = get_or text i 0 in
    let split : drop i text ≡ b ∷ bs = drop_more text i 0 h in
    let far : end ≡ suc i + m = omega (arith, prefix_len-drop_yes is_letter text i 0 h l) in
    let long : end - i ≡ suc m = omega arith in
    let rest : drop m bs ≡ drop end text = drop-drop m (i + 1) text ∙ ap (λ n. drop n text) (omega arith) in
    let taken : take (end - i) (drop i text) ≡ b ∷ take m bs = ap₂ take long split in
    ap (lexemes i) split ∙ run_first i b bs l
    ∙ ap₂ (λ r xs. at_place i (run r) ∷ xs) (sym taken) (ap₂ lexemes (sym far) rest)

-- from pieces to items
pub no_items : {xs : List Placed} → xs ≡ [] → items_of xs ≡ []
unfolding items_of
no_items e = ap items_of e

pub an_item : {xs ys : List Placed} {i : ℕ} {x : Lexeme} → xs ≡ at_place i x ∷ ys → items_of xs ≡ lexeme_item i x ∷ items_of ys
unfolding items_of
an_item e = ap items_of e

-- the first piece is a token, and the others begin at the place `end`
pub record Cut (text : List ℕ) (place : ℕ) (t : Token) (end : ℕ) : Type 0 where
  pub lexeme : Lexeme
  pub pieces : from text place ≡ at_place place lexeme ∷ from text end
  pub means : Means lexeme t
  pub items : here text place ≡ token place t ∷ here text end

pub cut_open : (text : List ℕ) (place : ℕ) → place < length text → get_or text place 0 ≡ 40 → Cut text place Open (place + 1)
cut_open text place h e = let cut = first_open text place h e in record { lexeme = opens; pieces = cut; means = means_open; items = an_item cut }

pub cut_close : (text : List ℕ) (place : ℕ) → place < length text → get_or text place 0 ≡ 41 → Cut text place Close (place + 1)
cut_close text place h e = let cut = first_close text place h e in record { lexeme = closes; pieces = cut; means = means_close; items = an_item cut }

-- a run of letters is a word, or none
abbrev pub letters_at : List ℕ → ℕ → ℕ → List ℕ
letters_at text place end = take (end - place) (drop place text)

pub cut_word : (text : List ℕ) (place end : ℕ) (w : Word) → place < length text → is_letter (get_or text place 0) ≡ true → end ≡ place + prefix_len is_letter (drop place text) → Names (letters_at text place end) w → lookup (letters_at text place end) ≡ Some w → Cut text place (word w) end
cut_word text place end w h l e n f =
    let cut = first_run text place end h l e in
    record { lexeme = run (letters_at text place end); pieces = cut; means = means_word n; items = an_item cut ∙ ap (λ o. word_item place o ∷ here text end) f }
