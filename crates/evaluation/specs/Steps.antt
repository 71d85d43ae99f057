-- What a watcher's steps make of an event: the values of a rule's nodes, and the cells that are kept for the next event.
--   Cells V               the plain cells and the routine cells
--   operand, left         the values of a step's operands among the values so far
--   result A e r s y x c  the step's value at the event e with the reading r, where its operands have the values y and x and its cell c
--   evaluate              the values of the steps, one after another
--   keeps_operand s       whether the step's cell keeps its operand's value; it keeps the step's own value otherwise
--   new_cells             the cells after the event, from the values of all the steps
--   sources pick i ss     the numbers of the steps whose values the cells keep
--   picked d vs ks        the values at these numbers
--   picked_cells          the cells after the event, as copies of the values of the steps
--   fresh_cells           the cells before the first event
--   Memory V, settled     the cells with the stack of those that open routines were called with, and both after an event
use Rattle.std.specs.Prelude.{ℕ, suc, ◌-◌, Bool, true, false, cond, List, [], ◌∷◌, ◌++◌, map, length, get_or, take, ◌==◌, slice_index_or, slice_set}
use Rattle.kinds.specs.Algebra.{Algebra}
use Rattle.reels.specs.declared.Event.{Event}
use Rattle.reels.specs.declared.EventKind.{EventKind}
use Rattle.history.specs.Moments.{is}
use Rattle.history.specs.Value.{truth}
use Rattle.evaluation.specs.declared.Step.{Step}
use Rattle.evaluation.specs.declared.Step.TheVariants.{True, False, Kind, Predicate, Routine, Not, And, Or, Implies, Before, Rbefore, Once, Ronce, Always, Ralways, Since, Rsince, Rise, Fall}
use Rattle.evaluation.specs.Plan.{Cell, none, plain, routine, cell_of, if_plain, if_routine}

pub record Cells (V : Type 0) : Type 0 where
  pub plain : List V
  pub routine : List V

-- the cells, and the routine cells that open routines were called with, the outermost first
pub record Memory (V : Type 0) : Type 0 where
  pub cells : Cells V
  pub stack : List (List V)

-- the last of a stack, and the others
abbrev pub top : {V : Type 0} → List (List V) → List V
top ps = slice_index_or ps (length ps - 1) []

abbrev pub lower : {V : Type 0} → List (List V) → List (List V)
lower ps = take (length ps - 1) ps

-- what is kept after an event of a kind, where the memory was m before it and the cells are new:
-- a begin puts the cells before it on the stack, and an end takes them off
abbrev pub settled : {V : Type 0} → EventKind → Memory V → Cells V → Memory V
settled EventKind.Step m new = record { cells = new; stack = m.stack }
settled EventKind.Call m new = record { cells = new; stack = m.stack }
settled EventKind.Begin m new = record { cells = new; stack = m.stack ++ m.cells.routine ∷ [] }
settled EventKind.End m new = record { cells = record { plain = new.plain; routine = top m.stack }; stack = lower m.stack }
settled EventKind.Return m new = record { cells = new; stack = m.stack }

-- the number of a step's left operand, where it has one
abbrev pub left_of : Step → ℕ
left_of True = 0
left_of False = 0
left_of (Kind k) = 0
left_of (Predicate n) = 0
left_of (Routine n) = 0
left_of Not = 0
left_of (And l) = l
left_of (Or l) = l
left_of (Implies l) = l
left_of (Before c) = 0
left_of (Rbefore c) = 0
left_of (Once c) = 0
left_of (Ronce c) = 0
left_of (Always c) = 0
left_of (Ralways c) = 0
left_of (Since l c) = l
left_of (Rsince l c) = l
left_of (Rise c) = 0
left_of (Fall c) = 0

abbrev pub keeps_operand : Step → Bool
keeps_operand True = false
keeps_operand False = false
keeps_operand (Kind k) = false
keeps_operand (Predicate n) = false
keeps_operand (Routine n) = false
keeps_operand Not = false
keeps_operand (And l) = false
keeps_operand (Or l) = false
keeps_operand (Implies l) = false
keeps_operand (Before c) = true
keeps_operand (Rbefore c) = true
keeps_operand (Once c) = false
keeps_operand (Ronce c) = false
keeps_operand (Always c) = false
keeps_operand (Ralways c) = false
keeps_operand (Since l c) = false
keeps_operand (Rsince l c) = false
keeps_operand (Rise c) = true
keeps_operand (Fall c) = true

-- the step's cell keeps one of the operand's value x and its own v
abbrev pub kept : {V : Type 0} → Step → V → V → V
kept s x v = cond (keeps_operand s) x v

abbrev pub put : {V : Type 0} → Cell → V → Cells V → Cells V
put none v cs = cs
put (plain c) v cs = record { plain = slice_set cs.plain c v; routine = cs.routine }
put (routine c) v cs = record { plain = cs.plain; routine = slice_set cs.routine c v }

-- the number of the step whose value the cell of step number i keeps
abbrev pub source : Step → ℕ → ℕ
source s i = cond (keeps_operand s) (i - 1) i

-- for the cells that `pick` picks, in order, of the steps ss, the first of which has the number i
unfoldable pub sources : (Cell → ℕ → List ℕ) → ℕ → List Step → List ℕ
sources pick i [] = []
sources pick i (s ∷ ss) = pick (cell_of s) (source s i) ++ sources pick (suc i) ss

abbrev pub picked : {V : Type 0} → V → List V → List ℕ → List V
picked d vs ks = map (λ k. get_or vs k d) ks

module _ (A : Algebra) where
  abbrev pub operand : List A.Val → A.Val
  operand vs = slice_index_or vs (length vs - 1) A.false

  abbrev pub left : Step → List A.Val → A.Val
  left s vs = slice_index_or vs (left_of s) A.false

  -- what a cell holds
  abbrev pub in_cell : Cell → Cells A.Val → A.Val
  in_cell none cs = A.false
  in_cell (plain c) cs = slice_index_or cs.plain c A.false
  in_cell (routine c) cs = slice_index_or cs.routine c A.false

  module _ (e : Event) (r : List A.Val) where
    abbrev pub result : Step → A.Val → A.Val → A.Val → A.Val
    result True y x c = A.true
    result False y x c = A.false
    result (Kind k) y x c = truth A (is k e)
    result (Predicate n) y x c = slice_index_or r n A.false
    result (Routine n) y x c = truth A (e.routine == n)
    result Not y x c = A.not x
    result (And l) y x c = A.and y x
    result (Or l) y x c = A.or y x
    result (Implies l) y x c = A.or (A.not y) x
    result (Before n) y x c = c
    result (Rbefore n) y x c = c
    result (Once n) y x c = A.or x c
    result (Ronce n) y x c = A.or x c
    result (Always n) y x c = A.and x c
    result (Ralways n) y x c = A.and x c
    result (Since l n) y x c = A.or x (A.and y c)
    result (Rsince l n) y x c = A.or x (A.and y c)
    result (Rise n) y x c = A.and x (A.not c)
    result (Fall n) y x c = A.and (A.not x) c

    -- the step's value from the values so far
    abbrev pub step_value : Cells A.Val → Step → List A.Val → A.Val
    step_value cs s vs = result s (left s vs) (operand vs) (in_cell (cell_of s) cs)

    unfoldable pub evaluate : Cells A.Val → List Step → List A.Val → List A.Val
    evaluate cs [] vs = vs
    evaluate cs (s ∷ ss) vs = evaluate cs ss (vs ++ step_value cs s vs ∷ [])

  -- after the steps ss, of which the first has the number i, with the values vs of all the steps
  unfoldable pub new_cells : List A.Val → ℕ → List Step → Cells A.Val → Cells A.Val
  new_cells vs i [] cs = cs
  new_cells vs i (s ∷ ss) cs = new_cells vs (suc i) ss (put (cell_of s) (kept s (slice_index_or vs (i - 1) A.false) (slice_index_or vs i A.false)) cs)

  -- after the steps ss, which have the values vs
  abbrev pub picked_cells : List A.Val → List Step → Cells A.Val
  picked_cells vs ss = record { plain = picked A.false vs (sources if_plain 0 ss); routine = picked A.false vs (sources if_routine 0 ss) }

  -- what a step's cell holds before the first event
  abbrev pub fresh : Step → A.Val
  fresh True = A.false
  fresh False = A.false
  fresh (Kind k) = A.false
  fresh (Predicate n) = A.false
  fresh (Routine n) = A.false
  fresh Not = A.false
  fresh (And l) = A.false
  fresh (Or l) = A.false
  fresh (Implies l) = A.false
  fresh (Before c) = A.false
  fresh (Rbefore c) = A.false
  fresh (Once c) = A.false
  fresh (Ronce c) = A.false
  fresh (Always c) = A.true
  fresh (Ralways c) = A.true
  fresh (Since l c) = A.false
  fresh (Rsince l c) = A.false
  fresh (Rise c) = A.false
  fresh (Fall c) = A.false

  -- of those that `pick` picks
  unfoldable pub fresh_of : (Cell → A.Val → List A.Val) → List Step → List A.Val
  fresh_of pick [] = []
  fresh_of pick (s ∷ ss) = pick (cell_of s) (fresh s) ++ fresh_of pick ss

  abbrev pub fresh_cells : List Step → Cells A.Val
  fresh_cells ss = record { plain = fresh_of if_plain ss; routine = fresh_of if_routine ss }
