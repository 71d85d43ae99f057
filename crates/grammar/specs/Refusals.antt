-- Which texts are rules, and why and where the others are refused.
--   Accepts text t     the text is a rule within the limits, and writes the tree t
--   Earns ts x f       behind the tokens ts, the piece x earns the refusal f
--   Refused text f     the text is refused by f
use Rattle.std.specs.Prelude.{◌≡◌, ℕ, ◌<◌, ◌≤◌, List, [], ◌∷◌, ◌++◌, length}
use Rattle.words.specs.Words.{Names}
use Rattle.words.specs.declared.Word.{Word}
use Rattle.grammar.specs.Limits.{max_text, max_words}
use Rattle.grammar.specs.Lexemes.{run, stray, Placed, lexemes, Means, Spells}
use Rattle.grammar.specs.Grammar.{Tree, IsRule, Begins, any_depth, in_depth, words}
use Rattle.grammar.specs.declared.Token.{Token}
use Rattle.grammar.specs.declared.TextFault.{TextFault}
use Rattle.grammar.specs.declared.TextFault.TheVariants.{TooLong, BadByte, UnknownWord, Misplaced, EndsEarly, TooDeep, TooManyWords}

pub record Accepts (text : List ℕ) (t : Tree) : Type 0 where
  pub short : length text ≤ max_text
  pub tokens : List Token
  pub spelled : Spells (lexemes 0 text) tokens
  pub reads : IsRule in_depth tokens t
  pub few : words tokens ≤ max_words

-- the tokens begin a rule within the limit of depth, however long, and are not too many words: none of them earns a
-- refusal
pub record Clean (ts : List Token) : Type 0 where
  pub begins : Begins in_depth ts
  pub few : words ts ≤ max_words

-- Behind clean tokens ts, the piece x earns f, at its own place. Each row holds where those above it do not:
-- a byte outside tokens and spaces; a word that is none of the language; a token with which, behind ts, no rule
-- begins at any depth; one with which no rule within the limit of depth begins; one word too many.
pub data Earns (ts : List Token) (x : Placed) : TextFault → Type 0 where
  bad_byte : {b : ℕ} → x.lexeme ≡ stray b → Earns ts x (BadByte x.place)
  unknown_word : {bs : List ℕ} → x.lexeme ≡ run bs → ((w : Word) → Names bs w → ⊥) → Earns ts x (UnknownWord x.place)
  misplaced : {t : Token} → Means x.lexeme t → (Begins any_depth (ts ++ t ∷ []) → ⊥) → Earns ts x (Misplaced x.place)
  too_deep : {t : Token} → Means x.lexeme t → Begins any_depth (ts ++ t ∷ []) → (Begins in_depth (ts ++ t ∷ []) → ⊥) → Earns ts x (TooDeep x.place)
  too_many_words : {t : Token} → Means x.lexeme t → Begins in_depth (ts ++ t ∷ []) → max_words < words (ts ++ t ∷ []) → Earns ts x (TooManyWords x.place)

-- A text that is too long is refused first; then the first piece that earns a refusal decides; then a text whose
-- tokens begin a rule and are none ends too early.
pub data Refused (text : List ℕ) : TextFault → Type 0 where
  too_long : max_text < length text → Refused text TooLong
  at_piece : {f : TextFault} {ts : List Token} (before : List Placed) (x : Placed) (after : List Placed) → length text ≤ max_text → lexemes 0 text ≡ before ++ x ∷ after → Spells before ts → Clean ts → Earns ts x f → Refused text f
  ends_early : {ts : List Token} → length text ≤ max_text → Spells (lexemes 0 text) ts → Clean ts → ((t : Tree) → IsRule in_depth ts t → ⊥) → Refused text (EndsEarly (length text))
