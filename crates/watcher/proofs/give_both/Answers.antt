use Rattle.watching.specs.Memory.{own_of}
use Rattle.watcher.proofs.Givings.{after, both_same}
use Rattle.watcher.proofs.give_both.Goals as goal

pub returns : goal.returns
returns g c =
    let A = g.K.TruthKind.algebra in
    let B = g.L.TruthKind.algebra in
    let f = g.K.TruthKind.means in
    let q = g.L.TruthKind.means in
    let first = c.args.first.now in
    let second = c.args.second.now in
    let given = c.give-answer.ensures.given in
    let given_second = c.give.ensures.given in
    let after_first = after A f first.program first.nesting _ (own_of c.args.lists) _ c.args.lists.working.now _ c.args.event _ g.K.TruthKind.laws c.give-answer.result _ c.give-answer.ensures.program given in
    let after_second = after B q second.program second.nesting _ (own_of c.args.carried_lists) _ c.args.carried_lists.working.now _ c.args.event _ g.L.TruthKind.laws c.give.result _ c.give.ensures.program given_second in
    record {
      first = given;
      first_looks_back = after_first.looks_back;
      first_leaves = after_first.leaves;
      first_goes_on = after_first.goes_on;
      second = given_second;
      second_looks_back = after_second.looks_back;
      second_leaves = after_second.leaves;
      second_goes_on = after_second.goes_on;
      carried = both_same A B g.K.TruthKind.laws g.L.TruthKind.laws f q _ (g.met.M.CarryingMap.keeps c.args.carried.now.map) first.program second.program first.nesting _ second.nesting _ (own_of c.args.lists) _ (own_of c.args.carried_lists) _ c.args.lists.working.now _ c.args.carried_lists.working.now _ c.args.event _ _ _ given given_second;
      programs = (c.give-answer.ensures.program, c.give.ensures.program);
    }
