use Rattle.std.proofs.Common.{◌≡◌, ◌-◌, ◌*◌, [], map, length, take, drop, Err, sym, refl, ap, ◌∙◌, arith}
use Rattle.std.specs.List.{slice_get}
use Rattle.std.proofs.lemmas.Result.{err_from_is_err_and}
use Rattle.evaluation.specs.Steps.{evaluate}
use Rattle.program.proofs.Facts.{steps_some}
use Rattle.watching.specs.Calls.{cells_after}
use Rattle.watching.specs.Refusals.{refusal}
use Rattle.monitor.specs.Own.{own, cells}
use Rattle.monitor.proofs.Giving.{sound_in, plain_in, routine_in, routine_after_lem, stack_after_lem, opened_after_lem, free, lists, refused}
use Rattle.monitor.proofs.Rooms.{room}
use Rattle.monitor.proofs.watcher.Watcher.give.Goals as goal

-- a refusal leaves all as it was
pub returns-in_err-number : goal.returns-in_err-number
returns-in_err-number g c =
    let self = c.args.self.now in
    let lent = own c.args.plain.now c.args.routine.now c.args.stack.now c.args.opened.now in
    let e = c.args.event in
    let p = err_from_is_err_and c.from_residual.result c.from_residual.ensures.1 in
    let answer : c.from_residual.result ≡ Err c.in_err-number.field-0.0 = cc (p.1, p.2) in
    record { given = refused g.K.TruthKind.algebra g.K.TruthKind.means self.program self.nesting lent _ e (g.S.Source.readings c.args.source.now) c.from_residual.result _ answer (c.in_err-number.ensures.fault ∙ ap (refusal self.program self.nesting lent _ e) c.len.ensures.value); program = refl }

pub returns : goal.returns
returns g c =
    let self = c.args.self.now in
    let p = self.program in
    let n = self.nesting in
    let lent = own c.args.plain.now c.args.routine.now c.args.stack.now c.args.opened.now in
    let e = c.args.event in
    let f = g.K.TruthKind.means in
    let fault = c.in_ok-number.ensures.fault in
    let long = lists p n lent _ e _ fault in
    let ss = c.steps-steps.ensures.value in
    let w = c.evaluate.new.working in
    record {
      given = (
        sym (fault ∙ ap (refusal p n lent _ e) c.len.ensures.value),
        record {
          number = c.in_ok-number.ensures.number;
          value = ap (λ l. slice_get w (length l - 1)) (sym ss) ∙ c.last_value-value.ensures.value;
          nodes = ap (λ l. map f (take (length l) w)) (sym ss) ∙ (c.evaluate.ensures.values ∙ ap (λ l. evaluate g.K.TruthKind.algebra e (map f (g.S.Source.readings c.args.source.now)) (cells f lent.plain lent.routine) l []) ss);
          rest = ap (λ l. drop (length l) w) (sym ss) ∙ (c.evaluate.ensures.rest ∙ ap (λ l. drop (length l) c.args.working.now) ss);
          nesting = c.next_nesting-self.ensures.value;
          plain = λ d. c.keep.ensures.after d ∙ ap (λ ks. cells_after d ks w lent.plain) c.plain.ensures.value;
          routine = λ d. routine_after_lem p n lent e.kind _ d w _ c.routine.ensures.value (c.keep_routine.ensures.routine d);
          stack = stack_after_lem p n lent e.kind _ _ c.routine.ensures.value c.keep_routine.ensures.stack;
          opened = opened_after_lem p n lent e.kind e.routine _ c.keep_routine.ensures.opened;
        },
      );
      program = refl;
    }

pub evaluate-requires : goal.evaluate-requires
evaluate-requires g c =
    let self = c.args.self.now in
    let long = lists self.program self.nesting (own c.args.plain.now c.args.routine.now c.args.stack.now c.args.opened.now) _ c.args.event _ c.in_ok-number.ensures.fault in
    record { sound = sound_in self.program _ _ _ c.steps-steps.ensures.value long.plain long.routine; room = omega (arith, ap length c.steps-steps.ensures.value, long.working) }

pub last_value-value-requires : goal.last_value-value-requires
last_value-value-requires g c =
    let self = c.args.self.now in
    let long = lists self.program self.nesting (own c.args.plain.now c.args.routine.now c.args.stack.now c.args.opened.now) _ c.args.event _ c.in_ok-number.ensures.fault in
    record { some = omega (arith, ap length c.steps-steps.ensures.value, steps_some self.program); room = omega (arith, ap length c.steps-steps.ensures.value, long.working, c.evaluate.auto.working) }

pub keep-requires : goal.keep-requires
keep-requires g c =
    let self = c.args.self.now in
    let long = lists self.program self.nesting (own c.args.plain.now c.args.routine.now c.args.stack.now c.args.opened.now) _ c.args.event _ c.in_ok-number.ensures.fault in
    record {
      below = plain_in self.program _ _ c.plain.ensures.value (omega (arith, long.working, c.evaluate.auto.working));
      room = omega (arith, ap length c.plain.ensures.value, long.plain);
    }

pub keep_routine-requires : goal.keep_routine-requires
keep_routine-requires g c =
    let self = c.args.self.now in
    let lent = own c.args.plain.now c.args.routine.now c.args.stack.now c.args.opened.now in
    let ready = free self.program self.nesting lent _ c.args.event _ c.in_ok-number.ensures.fault in
    let long = lists self.program self.nesting lent _ c.args.event _ c.in_ok-number.ensures.fault in
    record {
      below = routine_in self.program _ _ c.routine.ensures.value (omega (arith, long.working, c.evaluate.auto.working));
      cells = omega (arith, ap length c.routine.ensures.value, long.routine);
      room = room self.nesting lent.opened c.args.event ready.fault self.roomy long.opened (length c.routine.result.now) _ (omega (arith, ap (λ l. length l * self.nesting.limit) c.routine.ensures.value, long.stack));
    }
