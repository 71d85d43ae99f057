use Rattle.std.proofs.Common.{◌<◌, List, [], ◌∷◌, ◌++◌, map, length, take, sym, refl, ap, ◌∙◌, append-nil, arith}
use Rattle.std.proofs.lemmas.List.{take_more_set, map_push, drop-set-lt}
use Rattle.monitor.proofs.Starting.{one_fresh}
use Rattle.monitor.proofs.fresh.write_cell.Goals as goal

pub returns-in_default : goal.returns-in_default
returns-in_default g c =
    let none = one_fresh g.K.TruthKind.algebra c.args.side c.args.step.now [] c.in_default.ensures.value in
    record {
      end = omega (arith, ap length none);
      written = sym (append-nil _) ∙ ap (λ l. map g.K.TruthKind.means (take c.args.end c.args.cells.now) ++ l) none;
      rest = λ n h. refl;
    }

pub bounds-cells-end : goal.bounds-cells-end
bounds-cells-end g c =
    let some = one_fresh g.K.TruthKind.algebra c.args.side c.args.step.now _ c.in-Some.ensures.value in
    omega (arith, ap length some, c.requires)

pub overflow_add-result : goal.overflow_add-result
overflow_add-result g c =
    let some = one_fresh g.K.TruthKind.algebra c.args.side c.args.step.now _ c.in-Some.ensures.value in
    omega (arith, ap length some, c.requires)

pub returns : goal.returns
returns g c =
    let f = g.K.TruthKind.means in
    let cells = c.args.cells.now in
    let end = c.args.end in
    let some = one_fresh g.K.TruthKind.algebra c.args.side c.args.step.now _ c.in-Some.ensures.value in
    let within : end < length cells = omega (arith, ap length some, c.requires) in
    record {
      end = omega (arith, ap length some);
      written = ap (map f) (take_more_set cells end _ within) ∙ (map_push f (take end cells) _ ∙ ap (λ l. map f (take end cells) ++ l) (ap {B = List g.K.TruthKind.algebra.Val} (λ x. x ∷ []) c.truth_of.ensures.value ∙ some));
      rest = λ n h. drop-set-lt n cells end _ (omega (arith, h));
    }
