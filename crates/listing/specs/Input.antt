-- What the program prints for its input: a rule goes up to the first byte 10, or to the end where there is none.
--   max_input                  the most bytes of an input
--   first_line input           the bytes before the first byte 10
--   Answer input line          the line that is printed
--   fault_number, fault_place  the number and the place of a refused input
use Rattle.std.specs.Prelude.{ℕ, ◌<◌, ◌≤◌, List, length, ◌==◌}
use Rattle.std.specs.List.{before_first}
use Rattle.grammar.specs.Faults.{number, place}
use Rattle.grammar.specs.Grammar.{Tree}
use Rattle.grammar.specs.Layout.{layout}
use Rattle.grammar.specs.Refusals.{Accepts, Refused}
use Rattle.grammar.specs.declared.TextFault.{TextFault}
use Rattle.listing.specs.Lines.{refusal_line, rule_line}
use Rattle.listing.specs.declared.InputFault.{InputFault}
use Rattle.listing.specs.declared.InputFault.TheVariants.{TooLong}

abbrev pub max_input : ℕ
max_input = 65536

abbrev pub fault_number : InputFault → ℕ
fault_number TooLong = 44

abbrev pub fault_place : InputFault → ℕ
fault_place TooLong = max_input

abbrev pub first_line : List ℕ → List ℕ
first_line input = before_first (λ b. b == 10) input

-- too long an input comes first; then the rule is written out, or refused
pub data Answer (input : List ℕ) : List ℕ → Type 0 where
  too_long : max_input < length input → Answer input (refusal_line (fault_number TooLong) (fault_place TooLong))
  a_rule : {t : Tree} → length input ≤ max_input → Accepts (first_line input) t → Answer input (rule_line (layout t))
  no_rule : {f : TextFault} → length input ≤ max_input → Refused (first_line input) f → Answer input (refusal_line (number f) (place f))
