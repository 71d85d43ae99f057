use Rattle.std.proofs.Common.{◌≡◌, map, length, get_or, take, sym, ap, ◌∙◌, arith}
use Rattle.std.proofs.lemmas.List.{drop-set-lt}
use Rattle.evaluation.specs.declared.Step.TheVariants.{True}
use Rattle.monitor.proofs.Evaluating.{sound_here, left_fits, cell_fits, one_more, all_done}
use Rattle.monitor.proofs.evaluate.evaluate.Goals as goal

pub step_value-value-requires : goal.step_value-value-requires
step_value-value-requires g c =
    let s = get_or c.args.steps.now c.loop-i.i True in
    let fits = sound_here _ _ c.args.steps.now c.loop-i.i True c.requires.sound c.loop-i-test.true in
    record {
      left = left_fits s c.loop-i.i _ _ _ fits (omega arith);
      operand = omega arith;
      cell = cell_fits s c.loop-i.i _ _ fits;
    }

pub loop-i-preserved : goal.loop-i-preserved
loop-i-preserved g c =
    let f = g.K.TruthKind.means in
    let ws = c.loop-i.working in
    let i = c.loop-i.i in
    let fits = sound_here _ _ c.args.steps.now i True c.requires.sound c.loop-i-test.true in
    (one_more g.K.TruthKind.algebra f c.args.event _ _ c.args.steps.now ws i _ _ True c.step_value-value.result _ c.loop-i-test.true (omega arith) fits c.saturating_sub-before.ensures c.step_value-value.ensures.value c.loop-i.invariant.0, drop-set-lt (length c.args.steps.now) ws i c.step_value-value.result c.loop-i-test.true ∙ c.loop-i.invariant.1)

pub returns : goal.returns
returns g c =
    let f = g.K.TruthKind.means in
    let whole : c.loop-i.i ≡ length c.args.steps.now = omega arith in
    record {
      values = ap (λ k. map f (take k c.loop-i.working)) (sym whole) ∙ all_done g.K.TruthKind.algebra f c.args.event _ _ c.args.steps.now _ _ c.loop-i.i c.loop-i-test.false c.loop-i.invariant.0;
      rest = c.loop-i.invariant.1;
    }
