-- What the cells hold after a history, by looking back.
--   only_operand t      the right or only operand of the tree's word
--   held A h q t        what the cell of the tree's word holds at event q: its operand's value there, or its own
--   plain_at A t h      the plain cells of the rule with the tree t, those of its words at the last event
--   routine_at A t h q  its routine cells at event q
--   cells_at A t h q    both
--   innermost, back es  where the routine words of the next event look back to: after an end the call that has to return, else the last event
--   begun es            the calls whose routines are open, the innermost first
--   stack A t h         the routine cells at those calls, the outermost first
--   memory_at A t h     the cells and the stack
use Rattle.std.specs.Prelude.{ℕ, Bool, cond, ◌||◌, List, [], ◌∷◌, map, reverse, length}
use Rattle.grammar.specs.Grammar.{Tree, leaf, one, two}
use Rattle.kinds.specs.Algebra.{Algebra}
use Rattle.reels.specs.declared.Event.{Event}
use Rattle.reels.specs.declared.EventKind.{EventKind}
use Rattle.reels.specs.declared.EventKind.TheVariants.{Call, End}
use Rattle.reels.specs.Nesting.{outer}
use Rattle.history.specs.Moments.{Moment, events, event_at, is}
use Rattle.history.specs.Calls.{calls}
use Rattle.history.specs.Value.{earlier, value}
use Rattle.evaluation.specs.Plan.{step_of, plain_trees, routine_trees}
use Rattle.evaluation.specs.Steps.{Cells, Memory, keeps_operand}

-- a leaf stands for its own
abbrev pub only_operand : Tree → Tree
only_operand (leaf w) = leaf w
only_operand (one w t) = t
only_operand (two w l r) = r

module _ (A : Algebra) where
  -- at event 0, before any event, `once` and `since` are false and `always` is true
  abbrev pub held : List (Moment A.Val) → ℕ → Tree → A.Val
  held h q t = cond (keeps_operand (step_of t)) (earlier A (value A (only_operand t) h) q) (value A t h q)

  abbrev pub plain_at : Tree → List (Moment A.Val) → List A.Val
  plain_at t h = map (held h (length h)) (plain_trees t)

  abbrev pub routine_at : Tree → List (Moment A.Val) → ℕ → List A.Val
  routine_at t h q = map (held h q) (routine_trees t)

  abbrev pub cells_at : Tree → List (Moment A.Val) → ℕ → Cells A.Val
  cells_at t h q = record { plain = plain_at t h; routine = routine_at t h q }

abbrev pub last_is : EventKind → List Event → Bool
last_is k es = is k (event_at es (length es))

abbrev pub innermost : List ℕ → ℕ
innermost [] = 0
innermost (c ∷ cs) = c

abbrev pub back : List Event → ℕ
back es = cond (last_is End es) (innermost (calls es (length es))) (length es)

-- a routine is open from its begin up to its end
abbrev pub begun : List Event → List ℕ
begun es = cond (last_is Call es || last_is End es) (outer (calls es (length es))) (calls es (length es))

abbrev pub stack : (A : Algebra) → Tree → List (Moment A.Val) → List (List A.Val)
stack A t h = reverse (map (routine_at A t h) (begun (events h)))

-- what a watcher keeps after a history
abbrev pub memory_at : (A : Algebra) → Tree → List (Moment A.Val) → Memory A.Val
memory_at A t h = record { cells = cells_at A t h (back (events h)); stack = stack A t h }
