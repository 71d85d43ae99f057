-- The nodes of a tree: left operand, right operand, node.
--   size t         how many words the tree has
--   nodes at t     its nodes, the first of which has the number `at`
use Rattle.std.specs.Prelude.{ℕ, ◌+◌, ◌-◌, List, [], ◌∷◌, ◌++◌}
use Rattle.words.specs.declared.Word.{Word}
use Rattle.grammar.specs.Grammar.{Tree, leaf, one, two}
use Rattle.grammar.specs.declared.Node.{Node}

abbrev pub size : Tree → ℕ
size (leaf w) = 1
size (one w t) = size t + 1
size (two w l r) = size l + size r + 1

abbrev pub node : Word → ℕ → Node
node w left = record { word = w; left = left }

unfoldable pub nodes : ℕ → Tree → List Node
nodes at (leaf w) = node w 0 ∷ []
nodes at (one w t) = nodes at t ++ node w 0 ∷ []
nodes at (two w l r) = nodes at l ++ (nodes (at + size l) r ++ node w (at + size l - 1) ∷ [])
