-- What a rule holds.
--   nodes_in r  its nodes
--   Writes r t  they are the nodes of the tree t
--   TreeOf r t  t is the tree of the rule
use Rattle.std.specs.Prelude.{◌≡◌, ℕ, List}
use Rattle.fixed_vec.specs.Elements.{elements}
use Rattle.fixed_vec.specs.declared.vec.FixedVec.{FixedVec}
use Rattle.grammar.specs.Limits.{max_words}
use Rattle.grammar.specs.declared.Node.{Node}
use Rattle.grammar.specs.Grammar.{Tree}
use Rattle.grammar.specs.Nodes.{nodes}
use Rattle.grammar.specs.Refusals.{Accepts}
use Rattle.reader.specs.declared.rule.Rule.{Rule}

-- the nodes held are those of the tree t
abbrev pub Holds : FixedVec Node max_words → Tree → Type 0
Holds ns t = elements ns ≡ nodes 0 t

abbrev pub nodes_in : Rule → List Node
nodes_in r = elements r.nodes

abbrev pub Writes : Rule → Tree → Type 0
Writes r t = Holds r.nodes t

-- the rule has the tree t: an accepted text writes t, and its nodes are the rule's
pub record TreeOf (r : Rule) (t : Tree) : Type 0 where
  pub text : List ℕ
  pub accepted : Accepts text t
  pub nodes : Writes r t
