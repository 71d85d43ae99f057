-- The cells so far, and then those of the steps that are left, are the fresh cells of all of them; places past these stay.
use Rattle.std.proofs.Common.{◌≡◌, ◌≤◌, ◌++◌, map, length, take, drop}
use Rattle.evaluation.specs.Steps.{fresh_of}
use Rattle.monitor.specs.Sides.{pick}
use Rattle.monitor.proofs.fresh.write_fresh.Given as goal

abbrev pub invariant-loop-step : goal.invariant-loop-step
invariant-loop-step g l =
    (map g.K.TruthKind.means (take l.end l.cells) ++ fresh_of g.K.TruthKind.algebra (pick l.side) (drop l.step-index l.steps) ≡ fresh_of g.K.TruthKind.algebra (pick l.side) l.steps)
    × (drop (length (fresh_of g.K.TruthKind.algebra (pick l.side) l.steps)) l.cells ≡ drop (length (fresh_of g.K.TruthKind.algebra (pick l.side) l.steps)) l.initial.cells)
    × (l.end ≤ length l.cells)
