-- The calls that are still to return, as a watcher keeps them on a stack: a step between code and promise.
--   calls es i       the calls among the events 1 to i that have not returned, the innermost first
--   routine_at es i  the routine number of event i
--   unreturned s     the numbers of the routines that, by the nest s, were called and have not returned
use Rattle.std.specs.Prelude.{ℕ, zero, suc, List, [], ◌∷◌}
use Rattle.reels.specs.declared.Event.{Event}
use Rattle.reels.specs.declared.EventKind.{EventKind}
use Rattle.reels.specs.declared.EventKind.TheVariants.{Step, Call, Begin, End, Return}
use Rattle.reels.specs.Nesting.{Pending, calm, called, ended, Nest, outer}
use Rattle.history.specs.Moments.{event_at}

-- the stack after event i of this kind
abbrev pub after : EventKind → ℕ → List ℕ → List ℕ
after Step i cs = cs
after Call i cs = i ∷ cs
after Begin i cs = cs
after End i cs = cs
after Return i cs = outer cs

unfoldable pub calls : List Event → ℕ → List ℕ
calls es zero = []
calls es (suc i) = after (event_at es (suc i)).kind (suc i) (calls es i)

abbrev pub routine_at : List Event → ℕ → ℕ
routine_at es i = (event_at es i).routine

-- the open routines, and before them the one that is about to begin or to return
abbrev pub with_due : Pending → List ℕ → List ℕ
with_due calm ns = ns
with_due (called n) ns = n ∷ ns
with_due (ended n) ns = n ∷ ns

abbrev pub unreturned : Nest → List ℕ
unreturned s = with_due s.pending s.opened
