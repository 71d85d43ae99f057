-- What the lexer answers.
--   text_of l             its text
--   pieces l              the pieces that are left of its text
--   Answers xs r ys       with the pieces xs left, it answers r and leaves the pieces ys
--   left l, Next xs r ys  the same by the items that the machine takes: a step for the reader's proof
use Rattle.std.specs.Prelude.{◌≡◌, ℕ, List, [], ◌∷◌, drop, Some, None, Ok, Err, Option, Result}
use Rattle.words.specs.Words.{Names}
use Rattle.words.specs.declared.Word.{Word}
use Rattle.grammar.specs.Lexemes.{Lexeme, run, stray, Placed as Piece, lexemes, Means}
use Rattle.grammar.specs.Machine.{Item, token, bad, items}
use Rattle.grammar.specs.declared.TextFault.{TextFault}
use Rattle.grammar.specs.declared.TextFault.TheVariants.{BadByte, UnknownWord}
use Rattle.lexer.specs.declared.lexer.Lexer.{Lexer}
use Rattle.lexer.specs.declared.Placed.{Placed}

-- the bytes that it cuts
abbrev pub text_of : Lexer → List ℕ
text_of l = l.text.now

abbrev pub left : Lexer → List Item
left l = items l.at (drop l.at (text_of l))

-- the pieces that are left of its text
abbrev pub pieces : Lexer → List Piece
pieces l = lexemes l.at (drop l.at (text_of l))

-- why a piece is no token: a byte outside tokens and spaces, or a word that is none of the language
pub data Unfit (x : Piece) : TextFault → Type 0 where
  bad_byte : {b : ℕ} → x.lexeme ≡ stray b → Unfit x (BadByte x.place)
  unknown_word : {bs : List ℕ} → x.lexeme ≡ run bs → ((w : Word) → Names bs w → ⊥) → Unfit x (UnknownWord x.place)

-- nothing at the end; else the first piece as a token at its place, or why it is none
abbrev pub Answers : List Piece → Result (Option Placed) TextFault → List Piece → Type 0
Answers xs (Ok None) ys = (xs ≡ []) × (ys ≡ [])
Answers xs (Ok (Some p)) ys = (x : Lexeme) × (xs ≡ record { place = p.place; lexeme = x } ∷ ys) × Means x p.token
Answers xs (Err f) ys = (x : Piece) × (rest : List Piece) × (xs ≡ x ∷ rest) × Unfit x f

-- the same by the items of the machine, for the reader
abbrev pub Next : List Item → Result (Option Placed) TextFault → List Item → Type 0
Next xs (Ok None) ys = (xs ≡ []) × (ys ≡ [])
Next xs (Ok (Some p)) ys = xs ≡ token p.place p.token ∷ ys
Next xs (Err f) ys = (rest : List Item) × (xs ≡ bad f ∷ rest)
