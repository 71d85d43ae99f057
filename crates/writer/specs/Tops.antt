-- How the nodes of a tree stand in a list: a step in the proof of the writer.
--   Ordered k ns     every operand's number is below its node's; the first node has the number k
--   Tops ns n t      the node with the number n is the top of the tree t
use Rattle.std.specs.Prelude.{◌≡◌, ℕ, suc, ◌-◌, ◌<◌, List, [], ◌∷◌, slice_index_or}
use native.Mathlib.Bridge.{le_prop}
use mathlib.Core.HLevel.{Unit-prop, ×_prop}
use Rattle.words.specs.declared.Operands.{Operands}
use Rattle.words.specs.declared.Operands.TheVariants.{Zero, One, Two}
use Rattle.words.specs.declared.Word.{Word}
use Rattle.grammar.specs.Grammar.{Tree, leaf, one, two, takes}
use Rattle.grammar.specs.declared.Node.{Node}

-- the operands of a node with the number k and this left operand stand before it
abbrev pub Before : Operands → ℕ → ℕ → Type 0
Before Zero k left = Unit {0}
Before One k left = 0 < k
Before Two k left = (0 < k) × (left < k)

abbrev pub Ordered : ℕ → List Node → Type 0
Ordered k [] = Unit {0}
Ordered k (n ∷ ns) = Before (takes n.word) k n.left × Ordered (suc k) ns

-- at most one proof says that a list is ordered, as a fact that a struct keeps has to show
before_prop : (o : Operands) (k left : ℕ) → IsProp (Before o k left)
before_prop Zero k left = Unit-prop
before_prop One k left = le_prop
before_prop Two k left = ×_prop le_prop le_prop

pub ordered_prop : (ns : List Node) (k : ℕ) → IsProp (Ordered k ns)
ordered_prop [] k = Unit-prop
ordered_prop (n ∷ ns) k = ×_prop (before_prop (takes n.word) k n.left) (ordered_prop ns (suc k))

-- the node with the number n has this word, which takes so many units
pub record Has (ns : List Node) (n : ℕ) (w : Word) (o : Operands) : Type 0 where
  pub word : (d : Node) → (slice_index_or ns n d).word ≡ w
  pub units : takes w ≡ o

-- a right or only operand is the node just before; `left` says where a left one is
abbrev pub Tops : List Node → ℕ → Tree → Type 0
Tops ns n (leaf w) = Has ns n w Zero
Tops ns n (one w t) = Has ns n w One × Tops ns (n - 1) t
Tops ns n (two w l r) = Has ns n w Two × ((d : Node) → Tops ns (slice_index_or ns n d).left l) × Tops ns (n - 1) r
