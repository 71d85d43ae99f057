-- How long a rule's text can be.
--   max_rule_text      the most bytes of a tree as laid out
use Rattle.std.specs.Prelude.{ℕ}

abbrev pub max_rule_text : ℕ
max_rule_text = 541
