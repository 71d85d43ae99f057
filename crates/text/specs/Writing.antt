-- What a call that writes a text into lent memory answers, and what the memory then holds.
--   Written old new text r   the answer r of writing the text into memory that held old and then holds new
--   number_of f, place_of f  the number and the place of a refusal
use Rattle.std.specs.Prelude.{◌≡◌, ℕ, ◌<◌, ◌≤◌, List, ◌++◌, length, drop, Ok, Err, Result}
use Rattle.text.specs.declared.WriteFault.{WriteFault}
use Rattle.text.specs.declared.WriteFault.TheVariants.{TooShort}

-- the text fits: n is its length, and the memory holds the text and behind it what it held there
pub record Fits (old new text : List ℕ) (n : ℕ) : Type 0 where
  pub count : n ≡ length text
  pub room : length text ≤ length old
  pub memory : new ≡ text ++ drop n old

-- the text does not fit: the refusal says its length, and the memory is unchanged
pub record Refused (old new text : List ℕ) (f : WriteFault) : Type 0 where
  pub fault : f ≡ TooShort (length text)
  pub short : length old < length text
  pub memory : new ≡ old

abbrev pub Written : List ℕ → List ℕ → List ℕ → Result ℕ WriteFault → Type 0
Written old new text (Ok n) = Fits old new text n
Written old new text (Err f) = Refused old new text f

-- the number of a refusal
abbrev pub number_of : WriteFault → ℕ
number_of (TooShort n) = 18

-- the place of a refusal: the length needed
abbrev pub place_of : WriteFault → ℕ
place_of (TooShort n) = n
