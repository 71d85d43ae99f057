-- Every rule has a tree.
use mathlib.Core.Logic.{∥∥₁_map}
use Rattle.grammar.specs.Grammar.{Tree}
use Rattle.reader.specs.Rules.{TreeOf}
use Rattle.reader.specs.declared.rule.Rule.{Rule}

pub some_tree : (r : Rule) → ∥ ((t : Tree) × TreeOf r t) ∥₁
some_tree r = ∥∥₁_map r.accepted (λ x. (x.1, record { text = x.0; accepted = x.2; nodes = x.3 }))
