-- The values of the steps, one after another.
use Rattle.std.proofs.Common.{◌≡◌, ℕ, ◌+◌, ◌-◌, ◌<◌, ◌≤◌, List, [], ◌∷◌, ◌++◌, map, length, get_or, take, drop, set, sym, refl, ap, ◌∙◌, subst, ap₂, zero-add, arith, length-take}
use lib.ListN.{length-map}
use Rattle.std.proofs.lemmas.List.{get_or-take, take-map, take_more_set, map_push, at_drop_more, at_drop_all}
use Rattle.kinds.specs.Algebra.{Algebra}
use Rattle.reels.specs.declared.Event.{Event}
use Rattle.evaluation.specs.declared.Step.{Step}
use Rattle.evaluation.specs.declared.Step.TheVariants.{True, False, Kind, Predicate, Routine, Not, And, Or, Implies, Before, Rbefore, Once, Ronce, Always, Ralways, Since, Rsince, Rise, Fall}
use Rattle.evaluation.specs.Plan.{cell_of}
use Rattle.evaluation.specs.Steps.{Cells, left_of, operand, in_cell, step_value, result, evaluate}
use Rattle.program.specs.Programs.{Fits, Sound}
use Rattle.program.proofs.Facts.{sound_at}
use Rattle.monitor.specs.Shut.{CellFits, value_of_step}

-- each step of a program has its operands and its cell
pub sound_here : (a b : ℕ) (ss : List Step) (i : ℕ) (d : Step) → Sound 0 a b ss → i < length ss → Fits (get_or ss i d) i a b
sound_here a b ss i d h l = subst (λ k. Fits (get_or ss i d) k a b) (zero-add i) (sound_at 0 a b ss i d h l)

-- a step that has its operands and its cell has a place for its left operand, and its cell is there
pub left_fits : (s : Step) (i a b n : ℕ) → Fits s i a b → i < n → left_of s < n
left_fits True i a b n h l = omega arith
left_fits False i a b n h l = omega arith
left_fits (Kind k) i a b n h l = omega arith
left_fits (Predicate p) i a b n h l = omega arith
left_fits (Routine p) i a b n h l = omega arith
left_fits Not i a b n h l = omega arith
left_fits (And x) i a b n h l = omega arith
left_fits (Or x) i a b n h l = omega arith
left_fits (Implies x) i a b n h l = omega arith
left_fits (Before c) i a b n h l = omega arith
left_fits (Rbefore c) i a b n h l = omega arith
left_fits (Once c) i a b n h l = omega arith
left_fits (Ronce c) i a b n h l = omega arith
left_fits (Always c) i a b n h l = omega arith
left_fits (Ralways c) i a b n h l = omega arith
left_fits (Since x c) i a b n h l = omega (arith, h.0)
left_fits (Rsince x c) i a b n h l = omega (arith, h.0)
left_fits (Rise c) i a b n h l = omega arith
left_fits (Fall c) i a b n h l = omega arith

pub cell_fits : (s : Step) (i a b : ℕ) → Fits s i a b → CellFits (cell_of s) a b
cell_fits True i a b h = tt
cell_fits False i a b h = tt
cell_fits (Kind k) i a b h = tt
cell_fits (Predicate p) i a b h = tt
cell_fits (Routine p) i a b h = tt
cell_fits Not i a b h = tt
cell_fits (And x) i a b h = tt
cell_fits (Or x) i a b h = tt
cell_fits (Implies x) i a b h = tt
cell_fits (Before c) i a b h = h.1
cell_fits (Rbefore c) i a b h = h.1
cell_fits (Once c) i a b h = h.1
cell_fits (Ronce c) i a b h = h.1
cell_fits (Always c) i a b h = h.1
cell_fits (Ralways c) i a b h = h.1
cell_fits (Since x c) i a b h = h.1
cell_fits (Rsince x c) i a b h = h.1
cell_fits (Rise c) i a b h = h.1
cell_fits (Fall c) i a b h = h.1

module _ (A : Algebra) {K : Type 0} (means : K → A.Val) (e : Event) (r : List A.Val) (cs : Cells A.Val) where
  -- among the first i values
  front : (ws : List K) (i l : ℕ) → l < i → get_or (map means ws) l A.false ≡ get_or (map means (take i ws)) l A.false
  front ws i l h = sym (ap (λ xs. get_or xs l A.false) (sym (take-map means i ws)) ∙ get_or-take i (map means ws) l A.false h)

  last : (ws : List K) (i : ℕ) → 0 < i → i ≤ length ws → get_or (map means ws) (i - 1) A.false ≡ operand A (map means (take i ws))
  last ws i h l =
      let long : length (map means (take i ws)) ≡ i = length-map (take i ws) means ∙ omega (arith, length-take i ws) in
      front ws i (i - 1) (omega arith) ∙ ap (λ k. get_or (map means (take i ws)) (k - 1) A.false) (sym long)

  -- a step asks only for values before its own
  pub fitting : (s : Step) (i a b : ℕ) (ws : List K) → Fits s i a b → i ≤ length ws → value_of_step A e r cs (map means ws) (i - 1) s ≡ step_value A e r cs s (map means (take i ws))
  unfolding value_of_step
  fitting True i a b ws h l = refl
  fitting False i a b ws h l = refl
  fitting (Kind k) i a b ws h l = refl
  fitting (Predicate p) i a b ws h l = refl
  fitting (Routine p) i a b ws h l = refl
  fitting Not i a b ws h l = ap (λ x. result A e r Not x x x) (last ws i h l)
  fitting (And x) i a b ws h l = ap₂ (λ y z. result A e r (And x) y z z) (front ws i x h) (last ws i (omega arith) l)
  fitting (Or x) i a b ws h l = ap₂ (λ y z. result A e r (Or x) y z z) (front ws i x h) (last ws i (omega arith) l)
  fitting (Implies x) i a b ws h l = ap₂ (λ y z. result A e r (Implies x) y z z) (front ws i x h) (last ws i (omega arith) l)
  fitting (Before c) i a b ws h l = refl
  fitting (Rbefore c) i a b ws h l = refl
  fitting (Once c) i a b ws h l = ap (λ z. result A e r (Once c) z z (in_cell A (cell_of (Once c)) cs)) (last ws i h.0 l)
  fitting (Ronce c) i a b ws h l = ap (λ z. result A e r (Ronce c) z z (in_cell A (cell_of (Ronce c)) cs)) (last ws i h.0 l)
  fitting (Always c) i a b ws h l = ap (λ z. result A e r (Always c) z z (in_cell A (cell_of (Always c)) cs)) (last ws i h.0 l)
  fitting (Ralways c) i a b ws h l = ap (λ z. result A e r (Ralways c) z z (in_cell A (cell_of (Ralways c)) cs)) (last ws i h.0 l)
  fitting (Since x c) i a b ws h l = ap₂ (λ y z. result A e r (Since x c) y z (in_cell A (cell_of (Since x c)) cs)) (front ws i x h.0) (last ws i (omega (arith, h.0)) l)
  fitting (Rsince x c) i a b ws h l = ap₂ (λ y z. result A e r (Rsince x c) y z (in_cell A (cell_of (Rsince x c)) cs)) (front ws i x h.0) (last ws i (omega (arith, h.0)) l)
  fitting (Rise c) i a b ws h l = ap (λ z. result A e r (Rise c) z z (in_cell A (cell_of (Rise c)) cs)) (last ws i h.0 l)
  fitting (Fall c) i a b ws h l = ap (λ z. result A e r (Fall c) z z (in_cell A (cell_of (Fall c)) cs)) (last ws i h.0 l)

  -- one step more
  pub one_more : (ss : List Step) (ws : List K) (i a b : ℕ) (d : Step) (v : K) (x : List A.Val) → i < length ss → i < length ws → Fits (get_or ss i d) i a b → {k : ℕ} → k ≡ i - 1 → means v ≡ value_of_step A e r cs (map means ws) k (get_or ss i d) → evaluate A e r cs (drop i ss) (map means (take i ws)) ≡ x → evaluate A e r cs (drop (i + 1) ss) (map means (take (i + 1) (set ws i v))) ≡ x
  unfolding evaluate
  one_more ss ws i a b d v x h k fits behind value before =
      let s = get_or ss i d in
      let vs = map means (take i ws) in
      let new : map means (take (i + 1) (set ws i v)) ≡ vs ++ step_value A e r cs s vs ∷ [] = ap (map means) (take_more_set ws i v k) ∙ (map_push means (take i ws) v ∙ ap (λ y. vs ++ y ∷ []) (value ∙ (ap (λ j. value_of_step A e r cs (map means ws) j s) behind ∙ fitting s i a b ws fits (omega arith)))) in
      ap (evaluate A e r cs (drop (i + 1) ss)) new ∙ (sym (at_drop_more (λ l. evaluate A e r cs l vs) ss i d h) ∙ before)

  -- no step is left
  pub all_done : (ss : List Step) (vs x : List A.Val) (i : ℕ) → length ss ≤ i → evaluate A e r cs (drop i ss) vs ≡ x → vs ≡ x
  unfolding evaluate
  all_done ss vs x i h before = sym (at_drop_all (λ l. evaluate A e r cs l vs) ss i h) ∙ before
