-- How a text falls apart into parentheses, runs of letters and digits, and other bytes; spaces only part them.
--   class b            what a byte is
--   lexemes at bs      the pieces of the bytes bs, the first of which stands at the place `at`
--   Means x t          the piece x is the token t
--   Spells xs ts       the pieces xs are the tokens ts, one by one
use Rattle.std.specs.Prelude.{ℕ, suc, Bool, false, cond, ◌&&◌, ◌||◌, List, [], ◌∷◌, ◌==◌, nat_le}
use Rattle.words.specs.Words.{Names}
use Rattle.words.specs.declared.Word.{Word}
use Rattle.grammar.specs.declared.Token.{Token}
use Rattle.grammar.specs.declared.Token.TheVariants.{Open, Close, Word as word}

-- what a byte is: a space, a parenthesis, a letter a–z or digit, or another byte
pub data Class : Type 0 where
  space opening closing letter other : Class

abbrev pub between : ℕ → ℕ → ℕ → Bool
between low high b = nat_le low b && nat_le b high

abbrev pub is_letter : ℕ → Bool
is_letter b = between 97 122 b || between 48 57 b

abbrev pub class : ℕ → Class
class b = cond (b == 32) space (cond (b == 40) opening (cond (b == 41) closing (cond (is_letter b) letter other)))

-- a piece of a text
pub data Lexeme : Type 0 where
  opens closes : Lexeme
  run : List ℕ → Lexeme
  stray : ℕ → Lexeme

-- a piece and the place of its first byte
pub record Placed : Type 0 where
  pub place : ℕ
  pub lexeme : Lexeme

-- the bytes begin with a letter or digit
abbrev pub starts_run : List ℕ → Bool
starts_run [] = false
starts_run (b ∷ bs) = is_letter b

-- the run that is the first piece gets one more letter in front; only ever used on a run
abbrev pub longer : ℕ → ℕ → Placed → Placed
longer at b x = record { place = at; lexeme = elim x.lexeme [ opens ↦ opens | closes ↦ closes | run bs ↦ run (b ∷ bs) | stray s ↦ stray s ] }

abbrev pub on_first : (Placed → Placed) → List Placed → List Placed
on_first f [] = []
on_first f (x ∷ xs) = f x ∷ xs

-- the piece of a byte of this class, before the pieces `rest` of the bytes bs behind it;
-- a letter belongs to the run that starts right behind it, so that each run is as long as can be
abbrev pub with_byte : Class → ℕ → ℕ → List ℕ → List Placed → List Placed
with_byte space at b bs rest = rest
with_byte opening at b bs rest = record { place = at; lexeme = opens } ∷ rest
with_byte closing at b bs rest = record { place = at; lexeme = closes } ∷ rest
with_byte letter at b bs rest = cond (starts_run bs) (on_first (longer at b) rest) (record { place = at; lexeme = run (b ∷ []) } ∷ rest)
with_byte other at b bs rest = record { place = at; lexeme = stray b } ∷ rest

unfoldable pub lexemes : ℕ → List ℕ → List Placed
lexemes at [] = []
lexemes at (b ∷ bs) = with_byte (class b) at b bs (lexemes (suc at) bs)

-- the piece is the token
pub data Means : Lexeme → Token → Type 0 where
  means_open : Means opens Open
  means_close : Means closes Close
  means_word : {bs : List ℕ} {w : Word} → Names bs w → Means (run bs) (word w)

-- the pieces are the tokens, one by one
pub data Spells : List Placed → List Token → Type 0 where
  none : Spells [] []
  more : {x : Placed} {t : Token} {xs : List Placed} {ts : List Token} → Means x.lexeme t → Spells xs ts → Spells (x ∷ xs) (t ∷ ts)
