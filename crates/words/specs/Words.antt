-- The words of the rule language: their bytes, how many units each takes, and which numbers may follow.
--   Numbering   whether a number follows a word, and from where to where
--   row, text, operands, numbering  the table, and its columns
--   spell w     the bytes of a word as written
--   Listed w    the word's number is one that the table allows
--   Names bs w  the bytes are those of the listed word w
use Rattle.std.specs.Prelude.{◌≡◌, ℕ, ◌≤◌, List, [], ◌++◌, codes, decimal}
use Rattle.words.specs.declared.Operator.{Operator}
use Rattle.words.specs.declared.Operator.TheVariants.{And, Or, Implies, Since, Rsince, Not, Before, Rbefore, Once, Ronce, Always, Ralways, Rise, Fall, True, False, Step, Call, Begin, End, Return, Predicate, Routine}
use Rattle.words.specs.declared.Operands.{Operands}
use Rattle.words.specs.declared.Operands.TheVariants.{Zero, One, Two}
use Rattle.words.specs.declared.Word.{Word}

-- what follows a word's bytes: nothing, or a number between two ends
pub data Numbering : Type 0 where
  bare : Numbering
  within : ℕ → ℕ → Numbering

-- one row of the table
pub record Entry : Type 0 where
  pub text : List ℕ
  pub operands : Operands
  pub numbering : Numbering

abbrev pub row : Operator → Entry
row And = record { text = codes "and"; operands = Two; numbering = bare }
row Or = record { text = codes "or"; operands = Two; numbering = bare }
row Implies = record { text = codes "implies"; operands = Two; numbering = bare }
row Since = record { text = codes "since"; operands = Two; numbering = bare }
row Rsince = record { text = codes "rsince"; operands = Two; numbering = bare }
row Not = record { text = codes "not"; operands = One; numbering = bare }
row Before = record { text = codes "before"; operands = One; numbering = bare }
row Rbefore = record { text = codes "rbefore"; operands = One; numbering = bare }
row Once = record { text = codes "once"; operands = One; numbering = bare }
row Ronce = record { text = codes "ronce"; operands = One; numbering = bare }
row Always = record { text = codes "always"; operands = One; numbering = bare }
row Ralways = record { text = codes "ralways"; operands = One; numbering = bare }
row Rise = record { text = codes "rise"; operands = One; numbering = bare }
row Fall = record { text = codes "fall"; operands = One; numbering = bare }
row True = record { text = codes "true"; operands = Zero; numbering = bare }
row False = record { text = codes "false"; operands = Zero; numbering = bare }
row Step = record { text = codes "step"; operands = Zero; numbering = bare }
row Call = record { text = codes "call"; operands = Zero; numbering = bare }
row Begin = record { text = codes "begin"; operands = Zero; numbering = bare }
row End = record { text = codes "end"; operands = Zero; numbering = bare }
row Return = record { text = codes "return"; operands = Zero; numbering = bare }
row Predicate = record { text = codes "p"; operands = Zero; numbering = within 0 63 }
row Routine = record { text = codes "r"; operands = Zero; numbering = within 1 65535 }

-- the bytes of an operator's word, without its number
abbrev pub text : Operator → List ℕ
text o = (row o).text

-- how many units the operator takes
abbrev pub operands : Operator → Operands
operands o = (row o).operands

abbrev pub numbering : Operator → Numbering
numbering o = (row o).numbering

-- the digits that follow the word's bytes
abbrev pub suffix : Numbering → ℕ → List ℕ
suffix bare n = []
suffix (within low high) n = decimal n

-- a word as written: `p12` is `p` and the digits of 12
abbrev pub spell : Word → List ℕ
spell w = text w.operator ++ suffix (numbering w.operator) w.number

-- the numbers that a word may have; a word without a number has 0
abbrev pub Allowed : Numbering → ℕ → Type 0
Allowed bare n = n ≡ 0
Allowed (within low high) n = (low ≤ n) × (n ≤ high)

abbrev pub Listed : Word → Type 0
Listed w = Allowed (numbering w.operator) w.number

-- the bytes are those of this word of the language
pub record Names (bs : List ℕ) (w : Word) : Type 0 where
  pub listed : Listed w
  pub spelled : spell w ≡ bs
