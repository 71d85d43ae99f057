-- The values of the two rules, computed.
use Rattle.std.proofs.Common.{refl}
use Rattle.history.specs.Example.{Worked}
use Rattle.history.specs.Moments.{events, readings, numbered, tally, open_at, latest, over, call_of, hides, seen, prior}
use Rattle.history.specs.Value.{earlier, before, value}

pub worked : Worked
unfolding value events readings numbered tally open_at latest over call_of hides seen prior before earlier
worked = record { rbefore_p1 = refl; ronce_both = refl }
