-- The text of a rule, from its nodes: what the line then holds.
use Rattle.std.proofs.Common.{◌≡◌, ◌-◌, ◌<◌, ◌≤◌, ℕ, List, [], ◌++◌, length, take, sym, ap, ◌∙◌, subst, arith}
use native.Mathlib.Bridge.{le_prop}
use mathlib.Core.Logic.{∥∥₁_elim}
use Rattle.std.proofs.lemmas.List.{take_all}
use Rattle.grammar.specs.Grammar.{Tree}
use Rattle.grammar.specs.declared.Node.{Node}
use Rattle.reader.specs.Rules.{nodes_in}
use Rattle.reader.specs.declared.rule.Rule.{Rule}
use Rattle.reader.proofs.Trees.{some_tree}
use Rattle.reader.specs.Rules.{TreeOf}
use Rattle.writer.specs.Tops.{Ordered, Tops, ordered_prop}
use Rattle.writer.proofs.Laid.{counted}
use Rattle.writer.proofs.Tops.{length_nodes, size_some, nodes_ordered, tops_nodes}

-- the nodes of the rule
module _ (r : Rule) (ns : List Node) (e : ns ≡ nodes_in r) where
  pub some_node : 0 < length ns
  some_node = ∥∥₁_elim (some_tree r) le_prop (λ x. omega (arith, ap length (e ∙ x.1.nodes), length_nodes x.0 0, size_some x.0))

  pub in_order : Ordered 0 ns
  in_order =
      ∥∥₁_elim (some_tree r) (ordered_prop ns 0) λ x.
      let P : List Node → Type 0 = λ y. Ordered 0 y in
      subst P (sym (e ∙ x.1.nodes)) (nodes_ordered x.0 0 (counted x.1.text x.0 x.1.accepted))

  pub last_tops : (t : Tree) → TreeOf r t → Tops ns (length ns - 1) t
  last_tops t x =
      let P : List Node → Type 0 = λ y. Tops y (length y - 1) t in
      subst P (sym (e ∙ x.nodes)) (tops_nodes t (counted x.text t x.accepted))

-- a text behind none, in a line that has room for it
pub whole_text : {n : ℕ} {old new text : List ℕ} → old ≡ [] → length text ≤ n → new ≡ take n (old ++ text) → new ≡ text
whole_text {n} {old} {new} {text} none h p = p ∙ ap (λ x. take n (x ++ text)) none ∙ take_all n text h
