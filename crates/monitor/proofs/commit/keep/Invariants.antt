-- The cells so far have their values, and the others are as they were.
use Rattle.std.proofs.Common.{◌≡◌, ◌++◌, take, drop}
use Rattle.evaluation.specs.Steps.{picked}
use Rattle.monitor.proofs.commit.keep.Given as goal

abbrev pub invariant-loop-i : goal.invariant-loop-i
invariant-loop-i g l = (d : g.row.K.Denot) → l.cells ≡ picked d l.working (take l.i l.numbers) ++ drop l.i l.initial.cells
