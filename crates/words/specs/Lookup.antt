-- The search of the table, row by row, for the word that some bytes are: a step in the proof of the reader.
--   starts_number ds     there is a byte, and no other behind a leading zero
--   is_numeral ds        the bytes are digits with no leading zero
--   value_up_to high ds  the number that the bytes write, if it is at most `high`; with_digit reads one digit of it
--   numbered k ds        the number that the bytes behind a word give it
--   behind k ts bs       the number that the bytes give the word with the text ts
--   Line, line, line_of  what the search reads of a row: of an operator's, and of one of the code's table
--   fit l bs             the number that the bytes give the word of the line
--   seek ls bs           the word of the first line that the bytes fit
--   lookup bs            the listed word that is written so, or nothing
use Rattle.std.specs.Prelude.{ℕ, ◌+◌, ◌-◌, ◌*◌, Bool, true, false, cond, not, ◌&&◌, List, [], ◌∷◌, map, Some, None, Option, ◌==◌, nat_le}
use Rattle.std.specs.Str.Parse.{digits_value}
use Rattle.std.specs.Char.{is_ascii_digit}
use Rattle.std.specs.Str.{all_ascii_digits}
use Rattle.words.specs.Words.{Numbering, bare, within, text, numbering}
use Rattle.words.specs.declared.Word.{Word}
use Rattle.words.specs.declared.Row.{Row}
use Rattle.words.specs.declared.Numbers.{Numbers}
use Rattle.words.specs.declared.Operator.{Operator}
use Rattle.words.specs.declared.Operator.TheVariants.{And, Or, Implies, Since, Rsince, Not, Before, Rbefore, Once, Ronce, Always, Ralways, Rise, Fall, True, False, Step, Call, Begin, End, Return, Predicate, Routine}

-- the operators in the order of the table
abbrev pub operators : List Operator
operators = And ∷ Or ∷ Implies ∷ Since ∷ Rsince ∷ Not ∷ Before ∷ Rbefore ∷ Once ∷ Ronce ∷ Always ∷ Ralways ∷ Rise ∷ Fall ∷ True ∷ False ∷ Step ∷ Call ∷ Begin ∷ End ∷ Return ∷ Predicate ∷ Routine ∷ []

-- there is a byte, and no other behind a leading zero
abbrev pub starts_number : List ℕ → Bool
starts_number [] = false
starts_number (b ∷ []) = true
starts_number (b ∷ (c ∷ bs)) = not (b == 48)

-- digits with no leading zero; `0` itself is one digit
abbrev pub is_numeral : List ℕ → Bool
is_numeral ds = starts_number ds && all_ascii_digits ds

-- the number with one more digit, if it is at most `high`
abbrev pub with_digit : ℕ → ℕ → ℕ → Option ℕ
with_digit high n d = cond (is_ascii_digit d && nat_le (n * 10 + (d - 48)) high) (Some (n * 10 + (d - 48))) None

-- the number that the bytes write, if all are digits and it is at most `high`
abbrev pub value_up_to : ℕ → List ℕ → Option ℕ
value_up_to high ds = cond (all_ascii_digits ds && nat_le (digits_value 10 ds) high) (Some (digits_value 10 ds)) None

-- the number that the bytes behind a word give it
abbrev pub numbered : Numbering → List ℕ → Option ℕ
numbered bare [] = Some 0
numbered bare (b ∷ bs) = None
numbered (within low high) ds = cond (is_numeral ds && (nat_le low (digits_value 10 ds) && nat_le (digits_value 10 ds) high)) (Some (digits_value 10 ds)) None

-- the number that the bytes give the word with this text
abbrev pub behind : Numbering → List ℕ → List ℕ → Option ℕ
behind k [] bs = numbered k bs
behind k (t ∷ ts) [] = None
behind k (t ∷ ts) (b ∷ bs) = cond (t == b) (behind k ts bs) None

-- what the search reads of a row
pub record Line : Type 0 where
  pub operator : Operator
  pub text : List ℕ
  pub numbering : Numbering

abbrev pub line : Operator → Line
line o = record { operator = o; text = text o; numbering = numbering o }

abbrev pub numbering_of : Option Numbers → Numbering
numbering_of None = bare
numbering_of (Some ns) = within ns.lowest ns.highest

-- the same of a row of the code's table
abbrev pub line_of : Row → Line
line_of r = record { operator = r.operator; text = r.text.now; numbering = numbering_of r.numbers }

-- the number that the bytes give the word of the line
abbrev pub fit : Line → List ℕ → Option ℕ
fit l bs = behind l.numbering l.text bs

-- the word with this number, or else what is found later
abbrev pub or_else : Operator → Option ℕ → Option Word → Option Word
or_else o None later = later
or_else o (Some n) later = Some (record { operator = o; number = n })

-- the word of the first line that the bytes fit
abbrev pub seek : List Line → List ℕ → Option Word
seek [] bs = None
seek (l ∷ ls) bs = or_else l.operator (fit l bs) (seek ls bs)

unfoldable pub lookup : List ℕ → Option Word
lookup bs = seek (map line operators) bs
