-- Stacks of layers of one size, and the list that holds them one after another.
--   flat ls         the layers ls in one list
--   Layers b ls     each of them has b items
use Rattle.std.proofs.Common.{◌≡◌, ℕ, suc, pred, ◌+◌, ◌-◌, ◌*◌, ◌<◌, List, [], ◌∷◌, ◌++◌, map, reverse, length, take, drop, sym, ap, ◌∙◌, subst, ap₂, append_assoc, mul-suc, arith, length-append, length-take}
use mathlib.Core.List.{map-append, reverse-cons}
use lib.ListN.{length-map}
use Rattle.std.specs.List.{flat_map}
use Rattle.std.proofs.lemmas.List.{flat_map_more, take_more, take_all, take_at, take-take, take-map, drop_at, drop-take, drop-map}
use Rattle.grammar.specs.Grammar.{Tree}
use Rattle.kinds.specs.Algebra.{Algebra}
use Rattle.history.specs.Moments.{Moment, events}
use Rattle.evaluation.specs.Plan.{routine_trees, routine_cells}
use Rattle.evaluation.specs.Steps.{top, lower}
use Rattle.evaluation.specs.Cells.{held, routine_at, begun, stack}

module _ {V : Type 0} where
  abbrev pub flat : List (List V) → List V
  flat ls = flat_map (λ l. l) ls

  pub flat_push : (ls : List (List V)) (l : List V) → flat (ls ++ l ∷ []) ≡ flat ls ++ l
  flat_push ls l = sym (flat_map_more (λ x. x) [] ls l)

  module _ (b : ℕ) where
    abbrev pub Layers : List (List V) → Type 0
    Layers [] = Unit {0}
    Layers (l ∷ ls) = (length l ≡ b) × Layers ls

    pub flat_length : (ls : List (List V)) → Layers ls → length (flat ls) ≡ b * length ls
    flat_length [] q = omega arith
    flat_length (l ∷ ls) q = length-append l (flat ls) ∙ (ap₂ ◌+◌ q.0 (flat_length ls q.1) ∙ omega (arith, mul-suc b (length ls)))

    pub layers_push : (ls : List (List V)) (l : List V) → Layers ls → length l ≡ b → Layers (ls ++ l ∷ [])
    layers_push [] l q e = (e, tt)
    layers_push (x ∷ ls) l q e = (q.0, layers_push ls l q.1 e)

    pub layers_front : (ls ms : List (List V)) → Layers (ls ++ ms) → Layers ls
    layers_front [] ms q = tt
    layers_front (l ∷ ls) ms q = (q.0, layers_front ls ms q.1)

    pub layers_last : (ls : List (List V)) (l : List V) → Layers (ls ++ l ∷ []) → length l ≡ b
    layers_last [] l q = q.0
    layers_last (x ∷ ls) l q = layers_last ls l q.1

    pub layers_mapped : {X : Type 0} (f : X → List V) → ((x : X) → length (f x) ≡ b) → (xs : List X) → Layers (reverse (map f xs))
    layers_mapped f q [] = tt
    layers_mapped f q (x ∷ xs) = subst Layers (sym (reverse-cons (f x) (map f xs))) (layers_push (reverse (map f xs)) (f x) (layers_mapped f q xs) (q x))

  -- a stack that is not empty has its top behind the others
  pub top_behind : (ls : List (List V)) → 0 < length ls → ls ≡ lower ls ++ top ls ∷ []
  top_behind ls q = sym (take_all (length ls - 1 + 1) ls (omega arith)) ∙ take_more ls (length ls - 1) [] (omega arith)

-- the first b * k items of the list xs mean the k layers ls
module _ {K V : Type 0} (means : K → V) (b k : ℕ) (xs : List K) (ls : List (List V)) (layers : Layers b ls) (height : length ls ≡ k) (q : map means (take (b * k) xs) ≡ flat ls) where
  -- one layer more
  pub pushed_flat : (rs rest : List K) (l : List V) → map means (take b rs) ≡ l → length l ≡ b → map means (take (b * suc k) (take (b * k) xs ++ (take b rs ++ rest))) ≡ flat (ls ++ l ∷ [])
  pushed_flat rs rest l e long =
      let front = take (b * k) xs in
      let new = take b rs in
      let lf : length front ≡ b * k = sym (length-map front means) ∙ (ap length q ∙ (flat_length b ls layers ∙ ap (λ i. b * i) height)) in
      let ln : length new ≡ b = sym (length-map new means) ∙ (ap length e ∙ long) in
      ap (λ z. map means (take (b * suc k) z)) (sym (append_assoc front new rest)) ∙ (ap (map means) (take_at (front ++ new) rest (b * suc k) (omega (arith, length-append front new, mul-suc b k))) ∙ (map-append means front new ∙ (ap₂ ◌++◌ q e ∙ sym (flat_push ls l))))

  module _ (some : 0 < k) where
    parted : ls ≡ lower ls ++ top ls ∷ []
    parted = top_behind ls (omega arith)

    whole : map means (take (b * pred k + b) xs) ≡ flat (lower ls) ++ top ls
    whole =
        let last : suc (pred k) ≡ k = omega arith in
        let e : b * pred k + b ≡ b * k = sym (mul-suc b (pred k)) ∙ ap (λ i. b * i) last in
        ap (λ i. map means (take i xs)) e ∙ (q ∙ (ap flat parted ∙ flat_push (lower ls) (top ls)))

    lower_length : length (flat (lower ls)) ≡ b * pred k
    lower_length =
        let e : length (lower ls) ≡ pred k = omega (arith, length-take (length ls - 1) ls) in
        flat_length b (lower ls) (layers_front b (lower ls) (top ls ∷ []) (subst (Layers b) parted layers)) ∙ ap (λ i. b * i) e

    pub top_length : length (top ls) ≡ b
    top_length = layers_last b (lower ls) (top ls) (subst (Layers b) parted layers)

    -- without the top
    pub lower_flat : map means (take (b * pred k) xs) ≡ flat (lower ls)
    lower_flat = ap (map means) (sym (take-take (b * pred k) (b * pred k + b) xs (omega arith))) ∙ (sym (take-map means (b * pred k) (take (b * pred k + b) xs)) ∙ (ap (take (b * pred k)) whole ∙ take_at (flat (lower ls)) (top ls) (b * pred k) lower_length))

    pub top_flat : map means (take b (drop (b * pred k) xs)) ≡ top ls
    top_flat = ap (map means) (sym (drop-take (b * pred k) b xs)) ∙ (sym (drop-map means (b * pred k) (take (b * pred k + b) xs)) ∙ (ap (drop (b * pred k)) whole ∙ drop_at (flat (lower ls)) (top ls) (b * pred k) lower_length))

pub stack_layers : (A : Algebra) (t : Tree) (h : List (Moment A.Val)) → Layers (routine_cells t) (stack A t h)
stack_layers A t h = layers_mapped (routine_cells t) (routine_at A t h) (λ q. length-map (routine_trees t) (held A h q)) (begun (events h))
