-- What making a watcher and giving it an event answer, and what the lists then hold, for any watcher and any lists. Cells
-- and working values are copied as they are kept; the values of the nodes are said by what they mean.
--   first_nesting d   the nesting of a watcher just made
--   Fresh             the cells that a making writes, and every other place as it was
--   Made              the answer to a making
--   next_nesting n e  the nesting after an accepted event
--   plain_after, routine_after, stack_after, opened_after  the lists 1 to 4 after an accepted event
--   Accepted          the answer to an accepted event, and the lists then
--   Given             the answer to an event
use Rattle.std.specs.Prelude.{◌≡◌, ℕ, suc, pred, ◌+◌, ◌-◌, ◌*◌, List, [], ◌++◌, map, length, take, drop, Some, None, Ok, Err, Option, Result, slice_set}
use Rattle.std.specs.List.{slice_get}
use Rattle.kinds.specs.Algebra.{Algebra}
use Rattle.reels.specs.declared.Event.{Event}
use Rattle.reels.specs.declared.EventKind.{EventKind}
use Rattle.evaluation.specs.Plan.{if_plain, if_routine}
use Rattle.evaluation.specs.Steps.{picked, evaluate, fresh_of}
use Rattle.program.specs.Programs.{steps, plain_numbers, routine_numbers}
use Rattle.program.specs.declared.program.Program.{Program}
use Rattle.watching.specs.Memory.{Own, plain_cells, routine_cells, node_count}
use Rattle.watching.specs.Refusals.{making_refusal, refusal, number_of}
use Rattle.watching.specs.declared.Due.{Due}
use Rattle.watching.specs.declared.Due.TheVariants.{Begin, Return}
use Rattle.watching.specs.declared.Nesting.{Nesting}
use Rattle.watching.specs.declared.OpenRoutine.{OpenRoutine}
use Rattle.watching.specs.declared.Verdict.{Verdict}
use Rattle.watching.specs.declared.WatchFault.{WatchFault}

abbrev pub first_nesting : ℕ → Nesting
first_nesting d = record { limit = d; accepted = 0; depth = 0; due = None }

abbrev pub depth_after : EventKind → ℕ → ℕ
depth_after EventKind.Step d = d
depth_after EventKind.Call d = d
depth_after EventKind.Begin d = suc d
depth_after EventKind.End d = pred d
depth_after EventKind.Return d = d

abbrev pub due_after : EventKind → ℕ → Option Due
due_after EventKind.Step n = None
due_after EventKind.Call n = Some (Begin n)
due_after EventKind.Begin n = None
due_after EventKind.End n = Some (Return n)
due_after EventKind.Return n = None

abbrev pub next_nesting : Nesting → Event → Nesting
next_nesting n e = record { limit = n.limit; accepted = suc n.accepted; depth = depth_after e.kind n.depth; due = due_after e.kind e.routine }

module _ {K : Type 0} where
  -- cells take the values at their numbers; places past them stay
  abbrev pub cells_after : K → List ℕ → List K → List K → List K
  cells_after d ks vs old = picked d vs ks ++ drop (length ks) old

  module _ (p : Program) (n : Nesting) (o : Own K) where
    abbrev pub plain_after : K → List K → List K
    plain_after d vs = cells_after d (plain_numbers p) vs o.plain

    -- an end takes them from the top of the stack
    abbrev pub routine_after : EventKind → K → List K → List K
    routine_after EventKind.Step d vs = cells_after d (routine_numbers p) vs o.routine
    routine_after EventKind.Call d vs = cells_after d (routine_numbers p) vs o.routine
    routine_after EventKind.Begin d vs = cells_after d (routine_numbers p) vs o.routine
    routine_after EventKind.End d vs = take (routine_cells p) (drop (routine_cells p * pred n.depth) o.stack) ++ drop (routine_cells p) o.routine
    routine_after EventKind.Return d vs = cells_after d (routine_numbers p) vs o.routine

    -- a begin puts the routine cells before it on top
    abbrev pub stack_after : EventKind → List K
    stack_after EventKind.Step = o.stack
    stack_after EventKind.Call = o.stack
    stack_after EventKind.Begin = take (routine_cells p * n.depth) o.stack ++ (take (routine_cells p) o.routine ++ drop (routine_cells p * n.depth + routine_cells p) o.stack)
    stack_after EventKind.End = o.stack
    stack_after EventKind.Return = o.stack

    -- the call of a begin is the event before it
    abbrev pub opened_after : EventKind → ℕ → List OpenRoutine
    opened_after EventKind.Step r = o.opened
    opened_after EventKind.Call r = o.opened
    opened_after EventKind.Begin r = slice_set o.opened n.depth (record { routine = r; call = n.accepted })
    opened_after EventKind.End r = o.opened
    opened_after EventKind.Return r = o.opened

module _ (A : Algebra) {K : Type 0} (means : K → A.Val) (p : Program) where
  -- from the lists o and w to the lists o' and w'
  pub record Fresh (o : Own K) (w : List K) (o' : Own K) (w' : List K) : Type 0 where
    pub plain : map means (take (plain_cells p) o'.plain) ≡ fresh_of A if_plain (steps p)
    pub plain_rest : drop (plain_cells p) o'.plain ≡ drop (plain_cells p) o.plain
    pub routine : map means (take (routine_cells p) o'.routine) ≡ fresh_of A if_routine (steps p)
    pub routine_rest : drop (routine_cells p) o'.routine ≡ drop (routine_cells p) o.routine
    pub stack : o'.stack ≡ o.stack
    pub opened : o'.opened ≡ o.opened
    pub working : w' ≡ w

  -- n is the nesting that the watcher starts with
  abbrev pub Made : ℕ → Own K → List K → Result Nesting WatchFault → Own K → List K → Type 0
  Made d o w (Ok n) o' w' = (making_refusal p d o (length w) ≡ None) × (n ≡ first_nesting d) × Fresh o w o' w'
  Made d o w (Err f) o' w' = (making_refusal p d o (length w) ≡ Some f) × (o' ≡ o) × (w' ≡ w)

  -- the event e with the reading r; from the nesting n and the lists o and w to n', o' and w'
  pub record Accepted (n : Nesting) (o : Own K) (w : List K) (e : Event) (r : List K) (v : Verdict K) (n' : Nesting) (o' : Own K) (w' : List K) : Type 0 where
    pub number : v.number ≡ number_of n
    pub value : slice_get w' (node_count p - 1) ≡ Some v.value
    -- the value of node k stands at place k
    pub nodes : map means (take (node_count p) w') ≡ evaluate A e (map means r) (record { plain = map means o.plain; routine = map means o.routine }) (steps p) []
    pub rest : drop (node_count p) w' ≡ drop (node_count p) w
    pub nesting : n' ≡ next_nesting n e
    pub plain : (d : K) → o'.plain ≡ plain_after p n o d w'
    pub routine : (d : K) → o'.routine ≡ routine_after p n o e.kind d w'
    pub stack : o'.stack ≡ stack_after p n o e.kind
    pub opened : o'.opened ≡ opened_after p n o e.kind e.routine

  abbrev pub Given : Nesting → Own K → List K → Event → List K → Result (Verdict K) WatchFault → Nesting → Own K → List K → Type 0
  Given n o w e r (Ok v) n' o' w' = (refusal p n o (length w) e (length r) ≡ None) × Accepted n o w e r v n' o' w'
  Given n o w e r (Err f) n' o' w' = (refusal p n o (length w) e (length r) ≡ Some f) × (n' ≡ n) × (o' ≡ o) × (w' ≡ w)
