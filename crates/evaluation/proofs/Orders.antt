-- What a tree has in node order.
use Rattle.std.proofs.Common.{◌≡◌, ℕ, ◌+◌, ◌-◌, List, [], ◌∷◌, ◌++◌, map, length, get_or, refl, ap, ◌∙◌, subst, ap₂, arith, length-append}
use mathlib.Core.List.{map-append}
use lib.ListN.{length-map}
use Rattle.grammar.specs.Grammar.{Tree, leaf, one, two}
use Rattle.grammar.specs.Nodes.{size}
use Rattle.evaluation.specs.Plan.{in_order, subtrees, plain_cells, routine_cells, plan}
use Rattle.evaluation.proofs.Places.{At, at_rest}

pub subtrees_length : (t : Tree) → length (subtrees t) ≡ size t
unfolding in_order
subtrees_length (leaf w) = refl
subtrees_length (one w t) = omega (arith, length-append (subtrees t) (one w t ∷ []), subtrees_length t)
subtrees_length (two w l r) = omega (arith, length-append (subtrees l) (subtrees r ++ two w l r ∷ []), length-append (subtrees r) (two w l r ∷ []), subtrees_length l, subtrees_length r)

pub plan_length : (n a b : ℕ) (t : Tree) → length (plan n a b t) ≡ size t
unfolding plan
plan_length n a b (leaf w) = refl
plan_length n a b (one w t) = length-append (plan n a b t) _ ∙ ap (λ k. k + 1) (plan_length n a b t)
plan_length n a b (two w l r) =
    let right : length (plan (n + size l) (a + plain_cells l) (b + routine_cells l) r) ≡ size r = plan_length (n + size l) (a + plain_cells l) (b + routine_cells l) r in
    let both = ap₂ ◌+◌ (plan_length n a b l) (length-append (plan (n + size l) (a + plain_cells l) (b + routine_cells l) r) _ ∙ ap (λ k. k + 1) right) in
    length-append (plan n a b l) _ ∙ (both ∙ omega arith)

-- the last node of a tree is its own
pub last_value : {V : Type 0} (d : V) (f : Tree → V) (vs : List V) (n : ℕ) (t : Tree) → At d vs n (map f (subtrees t)) → get_or vs (n + size t - 1) d ≡ f t
unfolding in_order
last_value d f vs n (leaf w) h = ap (λ i. get_or vs i d) (omega arith) ∙ h.0
last_value d f vs n (one w t) h =
    let g = at_rest d vs (map f (subtrees t)) (f (one w t) ∷ []) n (subst (At d vs n) (map-append f (subtrees t) (one w t ∷ [])) h) in
    let e : n + (size t + 1) - 1 ≡ n + length (map f (subtrees t)) = omega (arith, length-map (subtrees t) f, subtrees_length t) in
    ap (λ i. get_or vs i d) e ∙ g.0
last_value d f vs n (two w l r) h =
    let g = at_rest d vs (map f (subtrees l)) (map f (subtrees r ++ two w l r ∷ [])) n (subst (At d vs n) (map-append f (subtrees l) (subtrees r ++ two w l r ∷ [])) h) in
    let k = at_rest d vs (map f (subtrees r)) (f (two w l r) ∷ []) (n + length (map f (subtrees l))) (subst (At d vs (n + length (map f (subtrees l)))) (map-append f (subtrees r) (two w l r ∷ [])) g) in
    let e : n + (size l + size r + 1) - 1 ≡ n + length (map f (subtrees l)) + length (map f (subtrees r)) = omega (arith, length-map (subtrees l) f, length-map (subtrees r) f, subtrees_length l, subtrees_length r) in
    ap (λ i. get_or vs i d) e ∙ k.0
