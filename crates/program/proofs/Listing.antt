-- The words of a rule's nodes are listed.
use Rattle.std.proofs.Common.{◌≡◌, ℕ, ◌<◌, List, length, get_or, sym, ap, ◌∙◌, subst, arith}
use native.Mathlib.Bridge.{le_prop}
use native.Mathlib.Nat.{ℕ_set}
use mathlib.Core.HLevel.{×_prop}
use mathlib.Core.Logic.{∥∥₁_elim}
use Rattle.words.specs.Words.{Numbering, bare, within, Allowed, Listed}
use Rattle.grammar.specs.Nodes.{nodes}
use Rattle.grammar.specs.declared.Node.{Node}
use Rattle.reader.specs.Rules.{nodes_in}
use Rattle.reader.specs.declared.rule.Rule.{Rule}
use Rattle.reader.proofs.Listing.{node_listed}

allowed_prop : (k : Numbering) (n : ℕ) → IsProp (Allowed k n)
allowed_prop bare n = ℕ_set n 0
allowed_prop (within low high) n = ×_prop le_prop le_prop

pub listed : (r : Rule) (ns : List Node) (i : ℕ) (d : Node) → ns ≡ nodes_in r → i < length ns → Listed (get_or ns i d).word
listed r ns i d e l =
    ∥∥₁_elim r.accepted (allowed_prop _ _) λ x.
    let all : ns ≡ nodes 0 x.1 = e ∙ x.3 in
    let P : Node → Type 0 = λ n. Listed n.word in
    subst P (sym (ap (λ y. get_or y i d) all)) (node_listed i d x.2 (omega (arith, ap length all)))
