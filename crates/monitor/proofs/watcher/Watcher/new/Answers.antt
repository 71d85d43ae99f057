use Rattle.std.proofs.Common.{map, take, drop, sym, refl, ap, ◌∙◌, arith}
use Rattle.evaluation.specs.Plan.{if_plain, if_routine}
use Rattle.evaluation.specs.Steps.{fresh_of}
use Rattle.watching.proofs.Passing.{long}
use Rattle.monitor.specs.Own.{own}
use Rattle.monitor.proofs.Starting.{plain_many, routine_many, not_refused}
use Rattle.monitor.proofs.watcher.Watcher.new.Goals as goal

pub write_fresh-requires : goal.write_fresh-requires
write_fresh-requires g c =
    let enough = long c.args.program c.args.limit (own c.args.plain.now c.args.routine.now c.args.stack.now c.args.opened.now) _ (sym c.in_default.ensures.value) in
    omega (arith, plain_many g.K.TruthKind.algebra c.args.program _ c.steps.ensures.value, enough.plain)

pub write_fresh-requires-2 : goal.write_fresh-requires-2
write_fresh-requires-2 g c =
    let enough = long c.args.program c.args.limit (own c.args.plain.now c.args.routine.now c.args.stack.now c.args.opened.now) _ (sym c.in_default.ensures.value) in
    omega (arith, routine_many g.K.TruthKind.algebra c.args.program _ c.steps-2.ensures.value, enough.routine)

pub returns : goal.returns
returns g c =
    let A = g.K.TruthKind.algebra in
    let f = g.K.TruthKind.means in
    let p = c.args.program in
    let lent = own c.args.plain.now c.args.routine.now c.args.stack.now c.args.opened.now in
    let plains = plain_many A p _ c.steps.ensures.value in
    let routines = routine_many A p _ c.steps-2.ensures.value in
    record {
      made = (
        not_refused p c.args.limit lent _ (omega arith) c.in_default.ensures.value,
        refl,
        record {
          plain = ap (λ n. map f (take n c.write_fresh.new.cells)) (sym plains) ∙ (c.write_fresh.ensures.fresh ∙ ap (fresh_of A if_plain) c.steps.ensures.value);
          plain_rest = ap (λ n. drop n c.write_fresh.new.cells) (sym plains) ∙ (c.write_fresh.ensures.rest ∙ ap (λ n. drop n lent.plain) plains);
          routine = ap (λ n. map f (take n c.write_fresh-2.new.cells)) (sym routines) ∙ (c.write_fresh-2.ensures.fresh ∙ ap (fresh_of A if_routine) c.steps-2.ensures.value);
          routine_rest = ap (λ n. drop n c.write_fresh-2.new.cells) (sym routines) ∙ (c.write_fresh-2.ensures.rest ∙ ap (λ n. drop n lent.routine) routines);
          stack = refl;
          opened = refl;
          working = refl;
        },
      );
      program = refl;
    }
