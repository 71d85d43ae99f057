-- The nesting of the events so far, as a watcher keeps it, and the events that it refuses:
-- a step between code and promise.
--   Pending       what is due next: nothing, the begin of a call, or the return of an end
--   Nest          the numbers of the open routines, innermost first, and what is due
--   Fault         why an event is refused
--   judged d s e  what the nest s says of the event e under the depth limit d: a fault, or nothing where it is taken
--   next s e      the nest after the event e
--   Takes d s es  the events es are taken one after another from the nest s
--   follow s es   the nest after the events es
use Rattle.std.specs.Prelude.{◌≡◌, ℕ, Bool, true, false, cond, ◌↔◌, List, [], ◌∷◌, ◌++◌, length, Some, None, Option, ◌==◌, nat_lt}
use Rattle.reels.specs.Reels.{fit, Begins}
use Rattle.reels.specs.declared.Event.{Event}
use Rattle.reels.specs.declared.EventKind.{EventKind}
use Rattle.reels.specs.declared.EventKind.TheVariants.{Step, Call, Begin, End, Return}

-- calm: nothing is due; called n: the begin of routine n is due; ended n: its return is due
pub data Pending : Type 0 where
  calm : Pending
  called ended : ℕ → Pending

pub record Nest : Type 0 where
  pub opened : List ℕ
  pub pending : Pending

-- no event so far
abbrev pub start : Nest
start = record { opened = []; pending = calm }

-- unfit: the number does not fit the kind; after_call, after_end: another event is due; stray: a begin or return
-- that is not due; not_innermost: an end of another routine than the innermost; too_deep: a call with the limit open
pub data Fault : Type 0 where
  unfit after_call after_end stray not_innermost too_deep : Fault

-- the fault, unless the test holds
abbrev pub unless : Bool → Fault → Option Fault
unless b f = cond b None (Some f)

-- the kind is begin; the kind is return
abbrev pub is_begin : EventKind → Bool
is_begin Step = false
is_begin Call = false
is_begin Begin = true
is_begin End = false
is_begin Return = false

abbrev pub is_return : EventKind → Bool
is_return Step = false
is_return Call = false
is_return Begin = false
is_return End = false
is_return Return = true

-- the routine m is the innermost open one
abbrev pub innermost : List ℕ → ℕ → Bool
innermost [] m = false
innermost (n ∷ ns) m = n == m

-- an event of a kind, with the number m, where nothing is due
abbrev pub undue : ℕ → List ℕ → EventKind → ℕ → Option Fault
undue d ns Step m = None
undue d ns Call m = unless (nat_lt (length ns) d) too_deep
undue d ns Begin m = Some stray
undue d ns End m = unless (innermost ns m) not_innermost
undue d ns Return m = Some stray

-- an event whose number m fits its kind, where the routines ns are open
abbrev pub in_turn : ℕ → List ℕ → Pending → EventKind → ℕ → Option Fault
in_turn d ns calm k m = undue d ns k m
in_turn d ns (called n) k m = unless (cond (is_begin k) (n == m) false) after_call
in_turn d ns (ended n) k m = unless (cond (is_return k) (n == m) false) after_end

-- faults count in the order in which they are listed
abbrev pub judged : ℕ → Nest → Event → Option Fault
judged d s e = cond (fit e) (in_turn d s.opened s.pending e.kind e.routine) (Some unfit)

-- without the innermost routine
abbrev pub outer : List ℕ → List ℕ
outer [] = []
outer (n ∷ ns) = ns

-- the nest after an event of a kind with the number m
abbrev pub onward : Nest → EventKind → ℕ → Nest
onward s Step m = s
onward s Call m = record { opened = s.opened; pending = called m }
onward s Begin m = record { opened = m ∷ s.opened; pending = calm }
onward s End m = record { opened = outer s.opened; pending = ended m }
onward s Return m = record { opened = s.opened; pending = calm }

abbrev pub next : Nest → Event → Nest
next s e = onward s e.kind e.routine

abbrev pub Takes : ℕ → Nest → List Event → Type 0
Takes d s [] = Unit {0}
Takes d s (e ∷ es) = (judged d s e ≡ None) × Takes d (next s e) es

abbrev pub follow : Nest → List Event → Nest
follow s [] = s
follow s (e ∷ es) = follow (next s e) es

-- the events that are taken are those that begin a reel
abbrev pub TakenBegins : Type 0
TakenBegins = (d : ℕ) (es : List Event) → Takes d start es ↔ Begins d es

-- behind the beginning of a reel, an event is refused exactly when no reel begins so
abbrev pub RefusedExactly : Type 0
RefusedExactly = (d : ℕ) (es : List Event) (e : Event) → Begins d es → ((f : Fault) × (judged d (follow start es) e ≡ Some f)) ↔ (Begins d (es ++ e ∷ []) → ⊥)

-- and it is too deep exactly when only a deeper reel begins so
abbrev pub TooDeepExactly : Type 0
TooDeepExactly = (d : ℕ) (es : List Event) (e : Event) → Begins d es → (judged d (follow start es) e ≡ Some too_deep) ↔ ((Begins d (es ++ e ∷ []) → ⊥) × ((k : ℕ) × Begins k (es ++ e ∷ [])))
