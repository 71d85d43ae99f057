-- How a tree is written out: a one-sided word, a space and its unit; a two-sided word with a space on each side;
-- an operand with a two-sided word at its top in parentheses; nothing else.
use Rattle.std.specs.Prelude.{ℕ, List, [], ◌∷◌, ◌++◌}
use Rattle.words.specs.Words.{spell}
use Rattle.grammar.specs.Grammar.{Tree, leaf, one, two}

-- an operand's text, from its tree and its text without parentheses
abbrev pub as_operand : Tree → List ℕ → List ℕ
as_operand (leaf w) bs = bs
as_operand (one w t) bs = bs
as_operand (two w l r) bs = 40 ∷ (bs ++ 41 ∷ [])

unfoldable pub layout : Tree → List ℕ
layout (leaf w) = spell w
layout (one w t) = spell w ++ 32 ∷ as_operand t (layout t)
layout (two w l r) = as_operand l (layout l) ++ 32 ∷ (spell w ++ 32 ∷ as_operand r (layout r))
