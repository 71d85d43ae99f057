-- The number and the place of each refusal of a watcher, and its limits.
--   max_limit      the highest depth limit
--   max_events     how many events a watcher accepts at most
--   list_number l  the number of a list
--   event_fault_number f  the number of a fault of an event
--   fault_number f, fault_place f  the number and the place of a refusal
use Rattle.std.specs.Prelude.{ℕ}
use Rattle.watching.specs.declared.EventFault.{EventFault}
use Rattle.watching.specs.declared.EventFault.TheVariants.{UnfitRoutine, BeginDue, ReturnDue, Stray, NotInnermost, TooDeep, MissingPredicate, TooManyEvents}
use Rattle.watching.specs.declared.LentList.{LentList}
use Rattle.watching.specs.declared.LentList.TheVariants.{Plain, Routine, Stack, Opened, Working}
use Rattle.watching.specs.declared.WatchFault.{WatchFault}
use Rattle.watching.specs.declared.WatchFault.TheVariants.{LimitTooHigh, ListTooShort, AtEvent}

abbrev pub max_limit : ℕ
max_limit = 256

abbrev pub max_events : ℕ
max_events = 16777215

abbrev pub list_number : LentList → ℕ
list_number Plain = 1
list_number Routine = 2
list_number Stack = 3
list_number Opened = 4
list_number Working = 5

abbrev pub event_fault_number : EventFault → ℕ
event_fault_number UnfitRoutine = 31
event_fault_number BeginDue = 32
event_fault_number ReturnDue = 33
event_fault_number Stray = 34
event_fault_number NotInnermost = 35
event_fault_number TooDeep = 36
event_fault_number MissingPredicate = 30
event_fault_number TooManyEvents = 37

abbrev pub fault_number : WatchFault → ℕ
fault_number LimitTooHigh = 20
fault_number (ListTooShort l) = 21
fault_number (AtEvent i f) = event_fault_number f

-- the event's number to be, but for the list that is too short and the limit that is too high
abbrev pub fault_place : WatchFault → ℕ
fault_place LimitTooHigh = max_limit
fault_place (ListTooShort l) = list_number l
fault_place (AtEvent i f) = i
