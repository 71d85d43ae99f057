use Rattle.std.proofs.Common.{map, take, sym, ap, ◌∙◌, arith}
use Rattle.evaluation.specs.declared.Step.TheVariants.{True}
use Rattle.monitor.proofs.Starting.{turn, none_left, room_here, written_long}
use Rattle.monitor.proofs.fresh.write_fresh.Goals as goal

pub write_cell-end-requires : goal.write_cell-end-requires
write_cell-end-requires g c =
    let room = room_here g.K.TruthKind.algebra g.K.TruthKind.means c.args.side c.args.steps.now c.loop-step.step-index True c.loop-step.cells c.loop-step.end c.loop-step-test.true c.loop-step.invariant.2 c.loop-step.invariant.0 in
    omega (arith, room, c.requires)

pub loop-step-preserved : goal.loop-step-preserved
loop-step-preserved g c =
    let ss = c.args.steps.now in
    let i = c.loop-step.step-index in
    let room = room_here g.K.TruthKind.algebra g.K.TruthKind.means c.args.side ss i True c.loop-step.cells c.loop-step.end c.loop-step-test.true c.loop-step.invariant.2 c.loop-step.invariant.0 in (
      turn g.K.TruthKind.algebra g.K.TruthKind.means c.args.side ss i True _ _ c.loop-step-test.true c.write_cell-end.ensures.written c.loop-step.invariant.0,
      c.write_cell-end.ensures.rest _ (omega (arith, room, c.write_cell-end.ensures.end)) ∙ c.loop-step.invariant.1,
      omega (arith, room, c.write_cell-end.ensures.end, c.requires),
    )

pub returns : goal.returns
returns g c =
    let f = g.K.TruthKind.means in
    let all = none_left g.K.TruthKind.algebra f c.args.side c.args.steps.now c.loop-step.step-index _ c.loop-step-test.false c.loop-step.invariant.0 in
    let long = written_long g.K.TruthKind.algebra f c.args.side _ c.loop-step.cells c.loop-step.end c.loop-step.invariant.2 all in
    record {
      fresh = ap (λ n. map f (take n c.loop-step.cells)) (sym long) ∙ all;
      rest = c.loop-step.invariant.1;
    }
