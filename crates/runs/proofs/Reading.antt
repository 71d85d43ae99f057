-- Steps read only the cells that a program has: what stands behind these in a list does not count.
use Rattle.std.proofs.Common.{◌≡◌, ℕ, suc, ◌+◌, ◌<◌, List, [], ◌∷◌, ◌++◌, length, get_or, refl, ap, ◌∙◌, arith, length-append}
use Rattle.kinds.specs.Algebra.{Algebra}
use Rattle.reels.specs.declared.Event.{Event}
use Rattle.evaluation.specs.declared.Step.{Step}
use Rattle.evaluation.specs.declared.Step.TheVariants.{True, False, Kind, Predicate, Routine, Not, And, Or, Implies, Before, Rbefore, Once, Ronce, Always, Ralways, Since, Rsince, Rise, Fall}
use Rattle.evaluation.specs.Plan.{cell_of}
use Rattle.evaluation.specs.Steps.{Cells, in_cell, left, operand, result, step_value, evaluate}
use Rattle.program.specs.Programs.{Fits, Sound}

module _ (A : Algebra) where
  pub evaluate_length : (e : Event) (r : List A.Val) (cs : Cells A.Val) (ss : List Step) (vs : List A.Val) → length (evaluate A e r cs ss vs) ≡ length vs + length ss
  unfolding evaluate
  evaluate_length e r cs [] vs = omega arith
  evaluate_length e r cs (s ∷ ss) vs = evaluate_length e r cs ss (vs ++ step_value A e r cs s vs ∷ []) ∙ omega (arith, length-append vs (step_value A e r cs s vs ∷ []))

  -- the first a plain and b routine cells are the same
  pub record SameCells (a b : ℕ) (cs ds : Cells A.Val) : Type 0 where
    pub plain : (c : ℕ) → c < a → get_or cs.plain c A.false ≡ get_or ds.plain c A.false
    pub routine : (c : ℕ) → c < b → get_or cs.routine c A.false ≡ get_or ds.routine c A.false

  module _ (a b : ℕ) (cs ds : Cells A.Val) (q : SameCells a b cs ds) where
    in_cell_same : (s : Step) (i : ℕ) → Fits s i a b → in_cell A (cell_of s) cs ≡ in_cell A (cell_of s) ds
    in_cell_same True i f = refl
    in_cell_same False i f = refl
    in_cell_same (Kind k) i f = refl
    in_cell_same (Predicate n) i f = refl
    in_cell_same (Routine n) i f = refl
    in_cell_same Not i f = refl
    in_cell_same (And l) i f = refl
    in_cell_same (Or l) i f = refl
    in_cell_same (Implies l) i f = refl
    in_cell_same (Before c) i f = q.plain c f.1
    in_cell_same (Rbefore c) i f = q.routine c f.1
    in_cell_same (Once c) i f = q.plain c f.1
    in_cell_same (Ronce c) i f = q.routine c f.1
    in_cell_same (Always c) i f = q.plain c f.1
    in_cell_same (Ralways c) i f = q.routine c f.1
    in_cell_same (Since l c) i f = q.plain c f.1
    in_cell_same (Rsince l c) i f = q.routine c f.1
    in_cell_same (Rise c) i f = q.plain c f.1
    in_cell_same (Fall c) i f = q.plain c f.1

    pub evaluate_same : (e : Event) (r : List A.Val) (ss : List Step) (i : ℕ) → Sound i a b ss → (vs : List A.Val) → evaluate A e r cs ss vs ≡ evaluate A e r ds ss vs
    unfolding evaluate Sound
    evaluate_same e r [] i f vs = refl
    evaluate_same e r (s ∷ ss) i f vs = ap (λ c. evaluate A e r cs ss (vs ++ result A e r s (left A s vs) (operand A vs) c ∷ [])) (in_cell_same s i f.0) ∙ evaluate_same e r ss (suc i) f.1 (vs ++ step_value A e r ds s vs ∷ [])
