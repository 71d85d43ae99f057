-- The room that a watcher's nesting needs.
--   begin_due d     one where a begin is due, which will open one more routine
use Rattle.std.specs.Prelude.{ℕ, Some, None, Option}
use Rattle.watching.specs.declared.Due.{Due}
use Rattle.watching.specs.declared.Due.TheVariants.{Begin, Return}

abbrev pub begin_due : Option Due → ℕ
begin_due None = 0
begin_due (Some (Begin n)) = 1
begin_due (Some (Return n)) = 0
