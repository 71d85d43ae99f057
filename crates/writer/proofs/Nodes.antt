-- The nodes of a tree determine it.
use Rattle.std.proofs.Common.{◌≡◌, ℕ, suc, ◌+◌, ◌-◌, List, [], ◌∷◌, ◌++◌, sym, refl, ap, ◌∙◌, ap₂, append_assoc, append-nil, arith}
use Rattle.std.proofs.lemmas.List.{same_from_push}
use Rattle.words.specs.declared.Operands.{Operands}
use Rattle.words.specs.declared.Operands.TheVariants.{Zero, One, Two}
use Rattle.words.specs.declared.Word.{Word}
use Rattle.grammar.specs.Grammar.{Tree, leaf, one, two, takes, Part, rule, unit}
use Rattle.grammar.specs.Nodes.{size, node, nodes}
use Rattle.grammar.specs.declared.Node.{Node}
use Rattle.writer.proofs.Proper.{Proper}

-- each word takes as many units as it has operands
abbrev pub Counted : Tree → Type 0
Counted (leaf w) = takes w ≡ Zero
Counted (one w t) = (takes w ≡ One) × Counted t
Counted (two w l r) = (takes w ≡ Two) × Counted l × Counted r

pub proper_counted : (t : Tree) (d : ℕ) (p : Part) → Proper d p t → Counted t
proper_counted (leaf w) d p P = P.1
proper_counted (one w t) d p P = (P.1, proper_counted t (suc d) unit P.3)
proper_counted (two w l r) d rule P = (P.1, proper_counted l d unit P.2, proper_counted r d unit P.3)
proper_counted (two w l r) d unit P = (P.1, proper_counted l (suc d) unit P.2, proper_counted r (suc d) unit P.3)

-- a tree's top: how many operands it has, its node, and the nodes before it
abbrev arity : Tree → ℕ
arity (leaf w) = 0
arity (one w t) = 1
arity (two w l r) = 2

abbrev pub many : Operands → ℕ
many Zero = 0
many One = 1
many Two = 2

abbrev pub top_node : ℕ → Tree → Node
top_node k (leaf w) = node w 0
top_node k (one w t) = node w 0
top_node k (two w l r) = node w (k + size l - 1)

abbrev pub below : ℕ → Tree → List Node
below k (leaf w) = []
below k (one w t) = nodes k t
below k (two w l r) = nodes k l ++ nodes (k + size l) r

pub nodes_push : (t : Tree) (k : ℕ) → nodes k t ≡ below k t ++ top_node k t ∷ []
unfolding nodes
nodes_push (leaf w) k = refl
nodes_push (one w t) k = refl
nodes_push (two w l r) k = sym (append_assoc (nodes k l) (nodes (k + size l) r) (top_node k (two w l r) ∷ []))

top_takes : (t : Tree) (k : ℕ) → Counted t → many (takes (top_node k t).word) ≡ arity t
top_takes (leaf w) k C = ap many C
top_takes (one w t) k C = ap many C.0
top_takes (two w l r) k C = ap many C.0

-- two lists that end with the nodes of a tree have equal tops, and the same before them
same_ends : (t u : Tree) (xs ys : List Node) (i j : ℕ) → xs ++ nodes i t ≡ ys ++ nodes j u → (xs ++ below i t ≡ ys ++ below j u) × (top_node i t ≡ top_node j u)
same_ends t u xs ys i j e =
    same_from_push (xs ++ below i t) (ys ++ below j u) (top_node i t) (top_node j u)
    (append_assoc xs (below i t) (top_node i t ∷ []) ∙ (rw (nodes_push t i, nodes_push u j) at e) ∙ sym (append_assoc ys (below j u) (top_node j u ∷ [])))

same_arity : (t u : Tree) (xs ys : List Node) (i j : ℕ) → Counted t → Counted u → xs ++ nodes i t ≡ ys ++ nodes j u → arity t ≡ arity u
same_arity t u xs ys i j C D e =
    sym (top_takes t i C) ∙ ap (λ (n : Node). many (takes n.word)) (same_ends t u xs ys i j e).1 ∙ top_takes u j D

same_top : (t u : Tree) (xs ys : List Node) (i j : ℕ) → Counted t → Counted u → xs ++ nodes i t ≡ ys ++ nodes j u → (t ≡ u) × (xs ≡ ys)
same_top (leaf w) (leaf v) xs ys i j C D e =
    let (front, eq) = same_ends (leaf w) (leaf v) xs ys i j e in
    (ap (λ (n : Node). leaf n.word) eq, simp append-nil at front)
same_top (leaf w) (one v u) xs ys i j C D e = absurd (omega (arith, same_arity (leaf w) (one v u) xs ys i j C D e))
same_top (leaf w) (two v l r) xs ys i j C D e = absurd (omega (arith, same_arity (leaf w) (two v l r) xs ys i j C D e))
same_top (one w t) (leaf v) xs ys i j C D e = absurd (omega (arith, same_arity (one w t) (leaf v) xs ys i j C D e))
same_top (one w t) (one v u) xs ys i j C D e =
    let (front, eq) = same_ends (one w t) (one v u) xs ys i j e in
    let (same, fronts) = same_top t u xs ys i j C.1 D.1 front in
    (ap₂ one (ap (λ (n : Node). n.word) eq) same, fronts)
same_top (one w t) (two v l r) xs ys i j C D e = absurd (omega (arith, same_arity (one w t) (two v l r) xs ys i j C D e))
same_top (two w l r) (leaf v) xs ys i j C D e = absurd (omega (arith, same_arity (two w l r) (leaf v) xs ys i j C D e))
same_top (two w l r) (one v u) xs ys i j C D e = absurd (omega (arith, same_arity (two w l r) (one v u) xs ys i j C D e))
same_top (two w l r) (two v m n) xs ys i j C D e =
    let (front, eq) = same_ends (two w l r) (two v m n) xs ys i j e in
    let (right, rest) = same_top r n (xs ++ nodes i l) (ys ++ nodes j m) (i + size l) (j + size m) C.2 D.2 (append_assoc xs (nodes i l) (nodes (i + size l) r) ∙ front ∙ sym (append_assoc ys (nodes j m) (nodes (j + size m) n))) in
    let (left, fronts) = same_top l m xs ys i j C.1 D.1 rest in
    (ap₂ (λ (x : Word) (y : Tree × Tree). two x y.0 y.1) (ap (λ (x : Node). x.word) eq) (λ k. (left k, right k)), fronts)

pub same_tree : (t u : Tree) → Counted t → Counted u → nodes 0 t ≡ nodes 0 u → t ≡ u
same_tree t u C D e = (same_top t u [] [] 0 0 C D e).0
