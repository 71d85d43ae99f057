-- The limits of a rule text.
--   max_text       the most bytes
--   max_depth      the most open parentheses and unfinished one-sided words at a token, itself included
--   max_words      the most words
use Rattle.std.specs.Prelude.{ℕ}

abbrev pub max_text : ℕ
max_text = 1024

abbrev pub max_depth : ℕ
max_depth = 16

abbrev pub max_words : ℕ
max_words = 64
