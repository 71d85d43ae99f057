-- Traces of the past-time logic of calls and returns (PTCARET), their prefixes and their abstractions.
--   State, Trace          a state is an event and the truth values of the predicates in it; a trace is a list of states, the newest last
--   Kind k s              the state s has the kind k
--   Last w v s            the trace w is not empty: it is the trace v and then the state s
--   Prefix w v            v is the prefix of w: w without its last state
--   Plain w               neither a begin nor an end state stands in w
--   Erases w v            v is w without one contiguous part that runs from a begin state to an end state
--   Abstraction w a       a is left of w when such parts are erased again and again until there is none
--   AbstractPrefix w v    v is the abstract prefix of w: up to the matching call where w ends with a return, else its prefix
use Rattle.std.specs.Prelude.{Bool, true, false, List, [], ◌∷◌, ◌++◌, ◌≡◌}
use Rattle.reels.specs.declared.EventKind.{EventKind}
use Rattle.reels.specs.declared.EventKind.TheVariants.{Call, Begin, End, Return}
use Rattle.history.specs.Moments.{Moment, is}

abbrev pub State : Type 0
State = Moment Bool

abbrev pub Trace : Type 0
Trace = List State

abbrev pub Kind : EventKind → State → Type 0
Kind k s = is k s.event ≡ true

abbrev pub Last : Trace → Trace → State → Type 0
Last w v s = w ≡ v ++ s ∷ []

abbrev pub Prefix : Trace → Trace → Type 0
Prefix w v = (s : State) × Last w v s

abbrev pub Plain : Trace → Type 0
Plain [] = Unit {0}
Plain (s ∷ w) = (is Begin s.event ≡ false) × (is End s.event ≡ false) × Plain w

-- the part that is erased begins with a begin state, ends with an end state that is not the last of the trace, and has
-- no begin and no end state between
pub data Erases : Trace → Trace → Type 0 where
  erase : (u x v : Trace) (b e s : State) → Kind Begin b → Plain x → Kind End e → Erases (u ++ b ∷ (x ++ e ∷ s ∷ v)) (u ++ s ∷ v)

pub data Abstraction : Trace → Trace → Type 0 where
  done : {w : Trace} → ((v : Trace) → Erases w v → ⊥) → Abstraction w w
  after : {w v a : Trace} → Erases w v → Abstraction v a → Abstraction w a

-- where w ends with a return: w is u and then x, where the abstraction of x is a call and a return; u and that call are the abstract prefix
pub data AbstractPrefix : Trace → Trace → Type 0 where
  no_return : {w v : Trace} (s : State) → Last w v s → is Return s.event ≡ false → AbstractPrefix w v
  a_return : {w : Trace} (v u x : Trace) (s c r : State) → Last w v s → Kind Return s → w ≡ u ++ x → Abstraction x (c ∷ r ∷ []) → Kind Call c → Kind Return r → AbstractPrefix w (u ++ c ∷ [])
