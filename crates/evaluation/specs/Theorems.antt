-- What holds of a watcher's cells and looking back, in every kind.
--   LooksBack    where routine words look back to from the event that comes next
--   BegunOpened  the calls whose routines are open have the numbers of the nest's open routines
--   Fresh A      before the first event the cells are fresh and no routine is open
--   Evaluates A  at an event the steps have the values of the rule's nodes by looking back, the last that of the rule;
--                the new cells are those at the event, and the memory is that after it
--   Copies A     at an event the new cells are copies of the values of the steps
use Rattle.std.specs.Prelude.{◌≡◌, ℕ, suc, ◌-◌, List, [], ◌∷◌, ◌++◌, map, length, slice_index_or}
use Rattle.grammar.specs.Grammar.{Tree}
use Rattle.grammar.specs.Nodes.{size}
use Rattle.kinds.specs.Algebra.{Algebra}
use Rattle.reels.specs.Reels.{Begins}
use Rattle.reels.specs.Nesting.{start, follow}
use Rattle.reels.specs.declared.Event.{Event}
use Rattle.history.specs.Moments.{Moment, events, prior}
use Rattle.history.specs.Calls.{routine_at}
use Rattle.history.specs.Value.{value}
use Rattle.evaluation.specs.Plan.{subtrees, rule_plan}
use Rattle.evaluation.specs.Steps.{Cells, settled, evaluate, new_cells, picked_cells, fresh_cells}
use Rattle.evaluation.specs.Cells.{cells_at, back, begun, memory_at}

abbrev pub LooksBack : Type 0
LooksBack = (d : ℕ) (es : List Event) (e : Event) → Begins d (es ++ e ∷ []) → prior (es ++ e ∷ []) (suc (length es)) ≡ back es

abbrev pub BegunOpened : Type 0
BegunOpened = (d : ℕ) (es : List Event) → Begins d es → map (routine_at es) (begun es) ≡ (follow start es).opened

abbrev pub Fresh : Algebra → Type 0
Fresh A = (t : Tree) → memory_at A t [] ≡ record { cells = fresh_cells A (rule_plan t); stack = [] }

module _ (A : Algebra) where
  -- the values of the rule's steps at the moment m after the history h
  abbrev pub values_at : Tree → List (Moment A.Val) → Moment A.Val → List A.Val
  values_at t h m = evaluate A m.event m.reading (memory_at A t h).cells (rule_plan t) []

  -- the new cells of the rule at the moment m after the history h
  abbrev pub new_cells_at : Tree → List (Moment A.Val) → Moment A.Val → Cells A.Val
  new_cells_at t h m = new_cells A (values_at t h m) 0 (rule_plan t) (memory_at A t h).cells

  pub record Evaluated (t : Tree) (h : List (Moment A.Val)) (m : Moment A.Val) : Type 0 where
    pub nodes : values_at t h m ≡ map (λ u. value A u (h ++ m ∷ []) (suc (length h))) (subtrees t)
    pub rule : slice_index_or (values_at t h m) (size t - 1) A.false ≡ value A t (h ++ m ∷ []) (suc (length h))
    pub cells : new_cells_at t h m ≡ cells_at A t (h ++ m ∷ []) (suc (length h))
    pub memory : settled m.event.kind (memory_at A t h) (new_cells_at t h m) ≡ memory_at A t (h ++ m ∷ [])

abbrev pub Evaluates : Algebra → Type 0
Evaluates A = (t : Tree) (d : ℕ) (h : List (Moment A.Val)) (m : Moment A.Val) → Begins d (events (h ++ m ∷ [])) → Evaluated A t h m

abbrev pub Copies : Algebra → Type 0
Copies A = (t : Tree) (d : ℕ) (h : List (Moment A.Val)) (m : Moment A.Val) → Begins d (events (h ++ m ∷ [])) → picked_cells A (values_at A t h m) (rule_plan t) ≡ new_cells_at A t h m
