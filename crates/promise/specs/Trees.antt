-- Rules by their trees.
--   word o n     the word of the operator o with the number n, which is 0 where the word has none
--   p n          the rule `pN`
use Rattle.std.specs.Prelude.{ℕ}
use Rattle.words.specs.declared.Operator.{Operator}
use Rattle.words.specs.declared.Operator.TheVariants.{Predicate}
use Rattle.words.specs.declared.Word.{Word}
use Rattle.grammar.specs.Grammar.{Tree, leaf}

abbrev pub word : Operator → ℕ → Word
word o n = record { operator = o; number = n }

abbrev pub p : ℕ → Tree
p n = leaf (word Predicate n)
