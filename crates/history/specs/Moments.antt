-- What a rule can look back on: events numbered from 1, which call a return belongs to, and what is seen from an event.
--   Moment V          an event with the reading that came with it, the values of the predicates p0, p1, ..
--   events h          the events of a history, which is a list of moments, the oldest first; readings h its readings
--   event_at es i     event number i; reading_at h i the reading that came with it
--   is k e            whether the event has the kind k
--   tally k es i      how many of the events 1 to i have the kind k
--   open_at es i      how many routines are open at event i: the begins minus the ends among the events 1 to i
--   latest P i        the latest of the events 1 to i with P, or 0
--   over op none F i  F over the events 1 to i, the newest first, joined by op; none where there is no event
--   some P i          whether one of the events 1 to i has P
--   call_of es i      the call that a return at i belongs to, or 0
--   hides es r j      whether r is a return and the event j lies between its call and r
--   seen es j i       whether the event j is seen from i
--   prior es i        where a routine word looks back to from i: the call if i is a return, else the event before; 0 where there is none
use Rattle.std.specs.Prelude.{ℕ, zero, suc, ◌-◌, Bool, true, false, cond, not, ◌&&◌, ◌||◌, List, [], map, ◌==◌, nat_le, nat_lt, slice_index_or}
use Rattle.reels.specs.declared.Event.{Event}
use Rattle.reels.specs.declared.EventKind.{EventKind}
use Rattle.reels.specs.declared.EventKind.TheVariants.{Step, Call, Begin, End, Return}

pub record Moment (V : Type 0) : Type 0 where
  pub event : Event
  pub reading : List V

-- what stands where a history has no event
abbrev pub blank : Event
blank = record { kind = Step; routine = 0 }

unfoldable pub events : {V : Type 0} → List (Moment V) → List Event
events h = map (λ m. m.event) h

unfoldable pub readings : {V : Type 0} → List (Moment V) → List (List V)
readings h = map (λ m. m.reading) h

-- item number i of a list that is numbered from 1, or d where there is none
unfoldable pub numbered : {X : Type 0} → X → List X → ℕ → X
numbered d xs zero = d
numbered d xs (suc i) = slice_index_or xs i d

abbrev pub event_at : List Event → ℕ → Event
event_at es i = numbered blank es i

abbrev pub reading_at : {V : Type 0} → List (Moment V) → ℕ → List V
reading_at h i = numbered [] (readings h) i

abbrev pub same_kind : EventKind → EventKind → Bool
same_kind Step = elim [ Step ↦ true | Call ↦ false | Begin ↦ false | End ↦ false | Return ↦ false ]
same_kind Call = elim [ Step ↦ false | Call ↦ true | Begin ↦ false | End ↦ false | Return ↦ false ]
same_kind Begin = elim [ Step ↦ false | Call ↦ false | Begin ↦ true | End ↦ false | Return ↦ false ]
same_kind End = elim [ Step ↦ false | Call ↦ false | Begin ↦ false | End ↦ true | Return ↦ false ]
same_kind Return = elim [ Step ↦ false | Call ↦ false | Begin ↦ false | End ↦ false | Return ↦ true ]

abbrev pub is : EventKind → Event → Bool
is k e = same_kind k e.kind

unfoldable pub tally : EventKind → List Event → ℕ → ℕ
tally k es zero = 0
tally k es (suc i) = cond (is k (event_at es (suc i))) (suc (tally k es i)) (tally k es i)

unfoldable pub open_at : List Event → ℕ → ℕ
open_at es i = tally Begin es i - tally End es i

unfoldable pub latest : (ℕ → Bool) → ℕ → ℕ
latest P zero = 0
latest P (suc i) = cond (P (suc i)) (suc i) (latest P i)

unfoldable pub over : {X : Type 0} → (X → X → X) → X → (ℕ → X) → ℕ → X
over op none F zero = none
over op none F (suc i) = op (F (suc i)) (over op none F i)

abbrev pub some : (ℕ → Bool) → ℕ → Bool
some P i = over ◌||◌ false P i

-- the latest call before it with as many routines open
unfoldable pub call_of : List Event → ℕ → ℕ
call_of es zero = 0
call_of es (suc i) = latest (λ c. is Call (event_at es c) && open_at es c == open_at es (suc i)) i

unfoldable pub hides : List Event → ℕ → ℕ → Bool
hides es r j = is Return (event_at es r) && (nat_lt 0 (call_of es r) && (nat_lt (call_of es r) j && nat_lt j r))

-- it is not later, and no return up to i hides it
unfoldable pub seen : List Event → ℕ → ℕ → Bool
seen es j i = nat_le j i && not (some (λ r. hides es r j) i)

unfoldable pub prior : List Event → ℕ → ℕ
prior es zero = 0
prior es (suc i) = cond (is Return (event_at es (suc i))) (call_of es (suc i)) i
