-- What a rule's cells keep after an event, copied from the values of its steps.
use Rattle.std.proofs.Common.{◌≡◌, ℕ, suc, ◌+◌, ◌-◌, true, false, cond, List, [], ◌∷◌, ◌++◌, map, length, get_or, sym, ap, ◌∙◌, refl, ap₂, append_assoc, append-nil, arith}
use mathlib.Core.List.{map-append}
use Rattle.grammar.specs.Grammar.{Tree, leaf, one, two}
use Rattle.grammar.specs.Nodes.{size}
use Rattle.kinds.specs.Algebra.{Algebra}
use Rattle.history.specs.Moments.{Moment, events, prior}
use Rattle.history.specs.Theorems.{Plain, Along}
use Rattle.evaluation.specs.declared.Step.{Step}
use Rattle.evaluation.specs.Plan.{Cell, none, plain, routine, cell_of, own, step_of, in_order, subtrees, plain_cells, routine_cells, plan}
use Rattle.evaluation.specs.Steps.{keeps_operand, kept, source, sources}
use Rattle.evaluation.specs.Cells.{held}
use Rattle.evaluation.proofs.Places.{At}
use Rattle.evaluation.proofs.Orders.{plan_length, last_value}
use Rattle.evaluation.proofs.Words.{Kin, IfCell}
use Rattle.evaluation.proofs.Running.{val, Ready, own_node, values_front, values_rest}

sources_append : (pick : Cell → ℕ → List ℕ) (i : ℕ) (ss us : List Step) → sources pick i (ss ++ us) ≡ sources pick i ss ++ sources pick (i + length ss) us
unfolding sources
sources_append pick i [] us = ap (λ k. sources pick k us) (omega arith)
sources_append pick i (s ∷ ss) us = ap (λ l. pick (cell_of s) (source s i) ++ l) (sources_append pick (suc i) ss us ∙ ap (λ k. sources pick (suc i) ss ++ sources pick k us) (omega arith)) ∙ sym (append_assoc (pick (cell_of s) (source s i)) (sources pick (suc i) ss) (sources pick (i + length (s ∷ ss)) us))

-- what follows from what a cell's step has
if_cell : {P Q : Type 0} (c : Cell) → (P → Q) → IfCell c P → IfCell c Q
if_cell none f x = tt
if_cell (plain c) f x = f x
if_cell (routine c) f x = f x

-- the cells that are picked, as they are after the event, by steps and by trees; vs are the values of the steps
module _ (A : Algebra) (h : List (Moment A.Val)) (n : ℕ) (P : Plain A n) (R : Along A (events h) n (prior (events h) (suc n))) (pick : Cell → ℕ → List ℕ) (pick_tree : Cell → Tree → List Tree) (picks : (a b : ℕ) (c k : Cell) → Kin a b c k → (f : Tree → A.Val) (g : ℕ → A.Val) (i : ℕ) (u : Tree) → IfCell c (g i ≡ f u) → map g (pick c i) ≡ map f (pick_tree k u)) (vs : List A.Val) where
  abbrev at : ℕ → A.Val
  at k = get_or vs k A.false

  abbrev worth : Tree → A.Val
  worth u = val A h n P R u

  abbrev then_held : Tree → A.Val
  then_held u = held A h (suc n) u

  abbrev own_trees : Tree → List Tree
  own_trees u = pick_tree (cell_of (step_of u)) u

  at_source : (s : Step) (i : ℕ) → at (source s i) ≡ kept s (at (i - 1)) (at i)
  at_source s i = elim (keeps_operand s) as (λ b. at (cond b (i - 1) i) ≡ cond b (at (i - 1)) (at i)) [ true ↦ refl | false ↦ refl ]

  own_copied : (u : Tree) (l a b i : ℕ) → Ready A h n P R at (at (i - 1)) l u → at i ≡ worth u → map at (sources pick i (own l a b u ∷ [])) ≡ map then_held (own_trees u)
  unfolding sources
  own_copied u l a b i q v =
      let o = own_node A h n P R u l a b at (at (i - 1)) q in
      let s = own l a b u in
      ap (map at) (append-nil (pick (cell_of s) (source s i))) ∙ picks a b _ _ o.kin then_held at (source s i) u (if_cell (cell_of s) (λ e. at_source s i ∙ (ap (kept s (at (i - 1))) v ∙ e)) o.keeps)

  -- the steps of a tree, and then others
  then : (t : Tree) (k a b : ℕ) (ss : List Step) → map at (sources pick k (plan k a b t ++ ss)) ≡ map at (sources pick k (plan k a b t)) ++ map at (sources pick (k + size t) ss)
  then t k a b ss = ap (map at) (sources_append pick k (plan k a b t) ss ∙ ap (λ i. sources pick k (plan k a b t) ++ sources pick (k + i) ss) (plan_length k a b t)) ∙ map-append at (sources pick k (plan k a b t)) (sources pick (k + size t) ss)

  pub copied : (t : Tree) (k a b : ℕ) → At A.false vs k (map worth (subtrees t)) → map at (sources pick k (plan k a b t)) ≡ map then_held (in_order own_trees t)
  unfolding plan in_order
  copied (leaf w) k a b g = own_copied (leaf w) 0 a b k tt g.0
  copied (one w t) k a b g =
      let s = own 0 (a + plain_cells t) (b + routine_cells t) (one w t) in
      let front = values_front A h n P R vs k (subtrees t) _ g in
      let rest = values_rest A h n P R vs k t (one w t ∷ []) g in
      then t k a b (s ∷ []) ∙ (ap₂ ◌++◌ (copied t k a b front) (own_copied (one w t) 0 (a + plain_cells t) (b + routine_cells t) (k + size t) (last_value A.false worth vs k t front) rest.0) ∙ sym (map-append then_held (in_order own_trees t) _))
  copied (two w t t') k a b g =
      let u = two w t t' in
      let a' = a + plain_cells t in
      let b' = b + routine_cells t in
      let k' = k + size t in
      let s = own (k + size t - 1) (a' + plain_cells t') (b' + routine_cells t') u in
      let front = values_front A h n P R vs k (subtrees t) _ g in
      let rest = values_rest A h n P R vs k t (subtrees t' ++ u ∷ []) g in
      let front' = values_front A h n P R vs k' (subtrees t') _ rest in
      let rest' = values_rest A h n P R vs k' t' (u ∷ []) rest in
      let last = own_copied u (k + size t - 1) (a' + plain_cells t') (b' + routine_cells t') (k' + size t') (last_value A.false worth vs k t front, last_value A.false worth vs k' t' front') rest'.0 in
      let right = then t' k' a' b' (s ∷ []) ∙ (ap₂ ◌++◌ (copied t' k' a' b' front') last ∙ sym (map-append then_held (in_order own_trees t') (own_trees u))) in
      then t k a b (plan k' a' b' t' ++ s ∷ []) ∙ (ap₂ ◌++◌ (copied t k a b front) right ∙ sym (map-append then_held (in_order own_trees t) (in_order own_trees t' ++ own_trees u)))
