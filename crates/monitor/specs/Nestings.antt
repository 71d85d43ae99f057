-- The nesting of the watcher that a making answers.
use Rattle.std.specs.Prelude.{Ok, Err, Result}
use Rattle.watching.specs.declared.Nesting.{Nesting}
use Rattle.watching.specs.declared.WatchFault.{WatchFault}
use Rattle.monitor.specs.declared.watcher.Watcher.{Watcher}

abbrev pub nesting_in : Result Watcher WatchFault → Result Nesting WatchFault
nesting_in (Ok w) = Ok w.nesting
nesting_in (Err f) = Err f
