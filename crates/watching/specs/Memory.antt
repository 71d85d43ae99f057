-- The memory that is lent to a watcher's calls.
--   Own V                  what the lists 1 to 4 hold, which are the watcher's own
--   own_of, working_of     what is lent, from the lists as they are passed
--   own_left, working_left what the lists hold when the call returns
--   plain_cells p, routine_cells p, node_count p  how many cells and nodes a program has
--   short_for a b k d o n  the first list that is too short for so many cells and nodes under the depth limit d; n is the length of list 5
--   short_list p d o n     the first list that is too short for a program
use Rattle.std.specs.Prelude.{ℕ, ◌*◌, cond, List, length, Some, None, Option, nat_lt}
use Rattle.std.specs.Borrow.{MutBor}
use Rattle.program.specs.Programs.{steps, plain_numbers, routine_numbers}
use Rattle.program.specs.declared.program.Program.{Program}
use Rattle.watching.specs.declared.LentList.{LentList}
use Rattle.watching.specs.declared.LentList.TheVariants.{Plain, Routine, Stack, Opened, Working}
use Rattle.watching.specs.declared.Lists.{Lists}
use Rattle.watching.specs.declared.OpenRoutine.{OpenRoutine}

pub record Own (V : Type 0) : Type 0 where
  pub plain : List V
  pub routine : List V
  pub stack : List V
  pub opened : List OpenRoutine

abbrev pub own_of : {V : Type 0} → Lists V → Own V
own_of l = record { plain = l.plain.now; routine = l.routine.now; stack = l.stack.now; opened = l.opened.now }

abbrev pub working_of : {V : Type 0} → Lists V → List V
working_of l = l.working.now

-- the lists as a call leaves them, one after another
abbrev pub Left : Type 0 → Type 0
Left V = MutBor (List V) × (MutBor (List V) × (MutBor (List V) × (MutBor (List OpenRoutine) × (MutBor (List V) × Unit {0}))))

abbrev pub own_left : {V : Type 0} → Left V → Own V
own_left l = record { plain = l.0.now; routine = l.1.0.now; stack = l.1.1.0.now; opened = l.1.1.1.0.now }

abbrev pub working_left : {V : Type 0} → Left V → List V
working_left l = l.1.1.1.1.0.now

abbrev pub plain_cells : Program → ℕ
plain_cells p = length (plain_numbers p)

abbrev pub routine_cells : Program → ℕ
routine_cells p = length (routine_numbers p)

abbrev pub node_count : Program → ℕ
node_count p = length (steps p)

-- For a plain and b routine cells and k nodes: list 1 has a place for each plain cell, list 2 for each routine cell, list 3 for
-- as many of these as routines can be open, list 4 for each of those routines, list 5 for each node.
abbrev pub short_for : {V : Type 0} → ℕ → ℕ → ℕ → ℕ → Own V → ℕ → Option LentList
short_for a b k d o n = cond (nat_lt (length o.plain) a) (Some Plain) (cond (nat_lt (length o.routine) b) (Some Routine) (cond (nat_lt (length o.stack) (b * d)) (Some Stack) (cond (nat_lt (length o.opened) d) (Some Opened) (cond (nat_lt n k) (Some Working) None))))

abbrev pub short_list : {V : Type 0} → Program → ℕ → Own V → ℕ → Option LentList
short_list p d o n = short_for (plain_cells p) (routine_cells p) (node_count p) d o n
