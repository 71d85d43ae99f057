-- The lines that are printed, the byte 10 at their end included.
--   refusal_line n p  a refusal's line: `!`, its number, a space, its place
--   rule_line text    a rule's line
--   max_line          the most bytes of a line that answers an input: those of the longest rule's
use Rattle.std.specs.Prelude.{ℕ, List, [], ◌∷◌, ◌++◌, decimal}

abbrev pub refusal_line : ℕ → ℕ → List ℕ
refusal_line n p = 33 ∷ (decimal n ++ 32 ∷ (decimal p ++ 10 ∷ []))

abbrev pub rule_line : List ℕ → List ℕ
rule_line text = text ++ 10 ∷ []

abbrev pub max_line : ℕ
max_line = 542
