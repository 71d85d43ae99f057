-- Which calls are refused, and by what.
--   nest_of n os    the nest of a watcher: its open routines stand in list 4, the innermost last
--   number_of n     the number that the next event has when it is accepted
--   first_of x y    the first that there is
--   event_fault f, fault_of i f  a fault of the nesting as one of an event, and the refusal by it
--   making_refusal  the refusal of a making, or nothing where a watcher is made
--   refusal         the refusal of an event, or nothing where it is accepted
use Rattle.std.specs.Prelude.{ℕ, suc, cond, List, map, reverse, take, Some, None, Option, nat_lt}
use Rattle.std.specs.Option.{option_map}
use Rattle.reels.specs.Nesting.{Pending, calm, called, ended, Nest, Fault, unfit, after_call, after_end, stray, not_innermost, too_deep, judged}
use Rattle.reels.specs.declared.Event.{Event}
use Rattle.program.specs.Programs.{wanted}
use Rattle.program.specs.declared.program.Program.{Program}
use Rattle.watching.specs.Faults.{max_limit, max_events}
use Rattle.watching.specs.Memory.{Own, short_list}
use Rattle.watching.specs.declared.Due.{Due}
use Rattle.watching.specs.declared.Due.TheVariants.{Begin, Return}
use Rattle.watching.specs.declared.EventFault.{EventFault}
use Rattle.watching.specs.declared.EventFault.TheVariants.{UnfitRoutine, BeginDue, ReturnDue, Stray, NotInnermost, TooDeep, MissingPredicate, TooManyEvents}
use Rattle.watching.specs.declared.LentList.{LentList}
use Rattle.watching.specs.declared.Nesting.{Nesting}
use Rattle.watching.specs.declared.OpenRoutine.{OpenRoutine}
use Rattle.watching.specs.declared.WatchFault.{WatchFault}
use Rattle.watching.specs.declared.WatchFault.TheVariants.{LimitTooHigh, ListTooShort, AtEvent}

abbrev pub pending_of : Option Due → Pending
pending_of None = calm
pending_of (Some (Begin n)) = called n
pending_of (Some (Return n)) = ended n

-- the numbers of the d routines that are open, the innermost first
abbrev pub routines_in : ℕ → List OpenRoutine → List ℕ
routines_in d os = reverse (map (λ o. o.routine) (take d os))

abbrev pub nest_of : Nesting → List OpenRoutine → Nest
nest_of n os = record { opened = routines_in n.depth os; pending = pending_of n.due }

abbrev pub number_of : Nesting → ℕ
number_of n = suc n.accepted

abbrev pub first_of : {X : Type 0} → Option X → Option X → Option X
first_of (Some x) y = Some x
first_of None y = y

abbrev pub event_fault : Fault → EventFault
event_fault unfit = UnfitRoutine
event_fault after_call = BeginDue
event_fault after_end = ReturnDue
event_fault stray = Stray
event_fault not_innermost = NotInnermost
event_fault too_deep = TooDeep

abbrev pub fault_of : ℕ → Fault → WatchFault
fault_of i f = AtEvent i (event_fault f)

-- a limit that is too high comes first, then the first list that is too short
abbrev pub making_refusal_by : ℕ → Option LentList → Option WatchFault
making_refusal_by d short = cond (nat_lt max_limit d) (Some LimitTooHigh) (option_map ListTooShort short)

abbrev pub making_refusal : {V : Type 0} → Program → ℕ → Own V → ℕ → Option WatchFault
making_refusal p d o n = making_refusal_by d (short_list p d o n)

-- of the event number i: first a list that is too short, then a fault of the nesting, then a predicate of the rule beyond
-- the reading of r values, then the end of the event numbers
abbrev pub refusal_by : Option LentList → ℕ → Option Fault → ℕ → ℕ → ℕ → Option WatchFault
refusal_by short i fault asked r accepted = first_of (option_map ListTooShort short) (first_of (option_map (fault_of i) fault) (cond (nat_lt r asked) (Some (AtEvent i MissingPredicate)) (cond (nat_lt accepted max_events) None (Some (AtEvent i TooManyEvents)))))

abbrev pub refusal : {V : Type 0} → Program → Nesting → Own V → ℕ → Event → ℕ → Option WatchFault
refusal p n o w e r = refusal_by (short_list p n.limit o w) (number_of n) (judged n.limit (nest_of n o.opened) e) (wanted p) r n.accepted
