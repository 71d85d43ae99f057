-- What the lists 2, 3 and 4 hold after an event, from the numbers of a program's routine cells alone.
--   Room               the room that an event of a kind needs on the stack and among the open routines
--   routine_kept, stack_kept, opened_kept
use Rattle.std.specs.Prelude.{ℕ, pred, ◌+◌, ◌*◌, ◌<◌, ◌≤◌, List, ◌++◌, length, take, drop, slice_set}
use Rattle.reels.specs.declared.EventKind.{EventKind}
use Rattle.reels.specs.declared.EventKind.TheVariants.{Step, Call, Begin, End, Return}
use Rattle.watching.specs.Calls.{cells_after}
use Rattle.watching.specs.declared.OpenRoutine.{OpenRoutine}

-- b cells, d routines open, a stack of s places and o places for open routines
abbrev pub Room : ℕ → ℕ → ℕ → ℕ → EventKind → Type 0
Room b d s o Step = Unit {0}
Room b d s o Call = Unit {0}
Room b d s o Begin = (b * d + b ≤ s) × (d < o)
Room b d s o End = (0 < d) × (b * d ≤ s)
Room b d s o Return = Unit {0}

module _ {K : Type 0} where
  abbrev pub routine_kept : List ℕ → ℕ → List K → List K → EventKind → K → List K → List K
  routine_kept ks d old stack Step x vs = cells_after x ks vs old
  routine_kept ks d old stack Call x vs = cells_after x ks vs old
  routine_kept ks d old stack Begin x vs = cells_after x ks vs old
  routine_kept ks d old stack End x vs = take (length ks) (drop (length ks * pred d) stack) ++ drop (length ks) old
  routine_kept ks d old stack Return x vs = cells_after x ks vs old

  abbrev pub stack_kept : ℕ → ℕ → List K → List K → EventKind → List K
  stack_kept b d old stack Step = stack
  stack_kept b d old stack Call = stack
  stack_kept b d old stack Begin = take (b * d) stack ++ (take b old ++ drop (b * d + b) stack)
  stack_kept b d old stack End = stack
  stack_kept b d old stack Return = stack

abbrev pub opened_kept : ℕ → ℕ → List OpenRoutine → EventKind → ℕ → List OpenRoutine
opened_kept d n os Step r = os
opened_kept d n os Call r = os
opened_kept d n os Begin r = slice_set os d (record { routine = r; call = n })
opened_kept d n os End r = os
opened_kept d n os Return r = os
