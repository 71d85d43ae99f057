-- What is left of the steps, from the values so far, comes to the values of all of them.
use Rattle.std.proofs.Common.{◌≡◌, [], map, length, take, drop}
use Rattle.evaluation.specs.Steps.{evaluate}
use Rattle.monitor.specs.Own.{cells}
use Rattle.monitor.proofs.evaluate.evaluate.Given as goal

abbrev pub invariant-loop-i : goal.invariant-loop-i
invariant-loop-i g l =
    (evaluate g.K.TruthKind.algebra l.event (map g.K.TruthKind.means (g.S.Source.readings l.source)) (cells g.K.TruthKind.means l.plain l.routine) (drop l.i l.steps) (map g.K.TruthKind.means (take l.i l.working))
    ≡ evaluate g.K.TruthKind.algebra l.event (map g.K.TruthKind.means (g.S.Source.readings l.source)) (cells g.K.TruthKind.means l.plain l.routine) l.steps [])
    × (drop (length l.steps) l.working ≡ drop (length l.steps) l.initial.working)
