-- What the bytes of a word are: letters and digits, at least one, and how many at most.
--   letter b     the byte is a letter a–z or a digit
--   Lettered bs  each of the bytes is
--   longest p    the most bytes of a word with so many operands
-- Where only the digits matter, a number of 16 bits takes the place of one that the table allows.
use Rattle.std.proofs.Common.{◌≡◌, ℕ, ◌+◌, ◌^◌, ◌<◌, ◌≤◌, Bool, true, ◌&&◌, ◌||◌, ltb, leb, List, [], ◌∷◌, length, decimal, refl, arith, length-append}
use Rattle.std.specs.Str.Parse.{digits_value}
use Rattle.std.specs.Char.{is_ascii_digit}
use Rattle.std.specs.List.{AllByRecursion as All}
use Rattle.std.specs.Str.{all_ascii_digits}
use Rattle.std.proofs.lemmas.Fmt.{digits_decimal, length-decimal-le}
use Rattle.std.proofs.ByRecursion.{All-append}
use Rattle.std.proofs.lemmas.Str.Parse.{IsNumeralModel, numerals_by_value, tells_all_ascii_digits}
use Rattle.std.proofs.lemmas.Bool.{leb-true, ltb-true, and_parts, or_right}
use Rattle.words.specs.Words.{Numbering, bare, within, text, operands, numbering, suffix, spell, Allowed, Listed}
use Rattle.words.specs.declared.Word.{Word}
use Rattle.words.specs.declared.Operands.{Operands}
use Rattle.words.specs.declared.Operands.TheVariants.{Zero, One, Two}
use Rattle.words.specs.declared.Operator.{Operator}
use Rattle.words.specs.declared.Operator.TheVariants.{And, Or, Implies, Since, Rsince, Not, Before, Rbefore, Once, Ronce, Always, Ralways, Rise, Fall, True, False, Step, Call, Begin, End, Return, Predicate, Routine}

-- `all_ascii_digits` and `digits_value 10`, in the words of the library's lemmas
pub own : IsNumeralModel (λ ds. all_ascii_digits ds ≡ true) (digits_value 10)
own = numerals_by_value _ tells_all_ascii_digits

abbrev pub letter : ℕ → Bool
letter b = (leb 97 b && leb b 122) || (leb 48 b && leb b 57)

abbrev pub Lettered : List ℕ → Type 0
Lettered bs = All (λ b. letter b ≡ true) bs

abbrev pub longest : Operands → ℕ
longest Zero = 6
longest One = 7
longest Two = 7

abbrev lettered : List ℕ → Bool
lettered [] = true
lettered (b ∷ bs) = letter b && lettered bs

-- the highest number is one of 16 bits, so that at most five digits follow
abbrev small : Numbering → Bool
small bare = true
small (within low high) = ltb high (2 ^ 16)

abbrev room : Numbering → ℕ
room bare = 0
room (within low high) = 5

-- the test of a row, which every row passes
abbrev whole : Operator → ℕ
whole o = length (text o) + room (numbering o)

abbrev proper : Operator → Bool
proper o = lettered (text o) && (ltb 0 (length (text o)) && (small (numbering o) && leb (whole o) (longest (operands o))))

all_proper : (o : Operator) → proper o ≡ true
all_proper = elim [ And ↦ refl | Or ↦ refl | Implies ↦ refl | Since ↦ refl | Rsince ↦ refl | Not ↦ refl | Before ↦ refl | Rbefore ↦ refl | Once ↦ refl | Ronce ↦ refl | Always ↦ refl | Ralways ↦ refl | Rise ↦ refl | Fall ↦ refl | True ↦ refl | False ↦ refl | Step ↦ refl | Call ↦ refl | Begin ↦ refl | End ↦ refl | Return ↦ refl | Predicate ↦ refl | Routine ↦ refl ]

-- what the test says
record Proper (o : Operator) : Type 0 where
  letters : lettered (text o) ≡ true
  some : 0 < length (text o)
  small : small (numbering o) ≡ true
  short : whole o ≤ longest (operands o)

tested : (o : Operator) → Proper o
tested o =
    let a = and_parts (lettered (text o)) (ltb 0 (length (text o)) && (small (numbering o) && leb (whole o) (longest (operands o)))) (all_proper o) in
    let b = and_parts (ltb 0 (length (text o))) (small (numbering o) && leb (whole o) (longest (operands o))) a.1 in
    let c = and_parts (small (numbering o)) (leb (whole o) (longest (operands o))) b.1 in
    record { letters = a.0; some = ltb-true 0 (length (text o)) b.0; small = c.0; short = leb-true (whole o) (longest (operands o)) c.1 }

all_letters : (bs : List ℕ) → lettered bs ≡ true → Lettered bs
all_letters [] h = tt
all_letters (b ∷ bs) h = let p = and_parts (letter b) (lettered bs) h in (p.0, all_letters bs p.1)

digits_letters : (ds : List ℕ) → all_ascii_digits ds ≡ true → Lettered ds
digits_letters [] h = tt
digits_letters (d ∷ ds) h =
    let p = and_parts (is_ascii_digit d) (all_ascii_digits ds) h in
    (or_right (leb 97 d && leb d 122) (is_ascii_digit d) p.0, digits_letters ds p.1)

suffix_letters : (k : Numbering) (n : ℕ) → n < 2 ^ 16 → Lettered (suffix k n)
suffix_letters bare n h = tt
suffix_letters (within low high) n h = digits_letters (decimal n) (digits_decimal own n (omega arith))

suffix_length : (k : Numbering) (n : ℕ) → n < 2 ^ 16 → length (suffix k n) ≤ room k
suffix_length bare n h = omega arith
suffix_length (within low high) n h = length-decimal-le 5 n (omega arith) (omega arith) (omega arith)

-- the highest number of a row
abbrev pub Bounded : Numbering → Type 0
Bounded bare = Unit {0}
Bounded (within low high) = high < 2 ^ 16

pub bounded : (o : Operator) → Bounded (numbering o)
bounded o = go (numbering o) (tested o).small
  where
    go : (k : Numbering) → small k ≡ true → Bounded k
    go bare f = tt
    go (within low high) f = ltb-true high (2 ^ 16) f

-- a listed word's number has 16 bits
pub listed_small : (w : Word) → Listed w → w.number < 2 ^ 16
listed_small w h = go (numbering w.operator) (bounded w.operator) h
  where
    go : (k : Numbering) → Bounded k → Allowed k w.number → w.number < 2 ^ 16
    go bare b h = omega arith
    go (within low high) b h = omega arith

pub small_letters : (w : Word) → w.number < 2 ^ 16 → Lettered (spell w)
small_letters w h =
    All-append (λ b. letter b ≡ true) (text w.operator) (suffix (numbering w.operator) w.number)
    (all_letters (text w.operator) (tested w.operator).letters)
    (suffix_letters (numbering w.operator) w.number h)

pub small_room : (w : Word) → w.number < 2 ^ 16 → length (spell w) ≤ longest (operands w.operator)
small_room w h =
    let p = tested w.operator in
    omega (arith, suffix_length (numbering w.operator) w.number h, length-append (text w.operator) (suffix (numbering w.operator) w.number))

pub spell_some : (w : Word) → 0 < length (spell w)
spell_some w =
    let p = tested w.operator in
    omega (arith, length-append (text w.operator) (suffix (numbering w.operator) w.number))

pub spell_letters : (w : Word) → Listed w → Lettered (spell w)
spell_letters w h = small_letters w (listed_small w h)

-- a word with no operand has at most 6 bytes, and any other at most 7
pub spell_room : (w : Word) → Listed w → length (spell w) ≤ longest (operands w.operator)
spell_room w h = small_room w (listed_small w h)

pub longest_seven : (p : Operands) → longest p ≤ 7
longest_seven = elim [ Zero ↦ omega arith | One ↦ omega arith | Two ↦ omega arith ]

pub spell_length : (w : Word) → Listed w → length (spell w) ≤ 7
spell_length w h = omega (arith, spell_room w h, longest_seven (operands w.operator))
