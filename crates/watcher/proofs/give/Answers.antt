use Rattle.watching.specs.Memory.{own_of}
use Rattle.watcher.proofs.Givings.{after}
use Rattle.watcher.proofs.give.Goals as goal

pub returns : goal.returns
returns g c =
    let watcher = c.args.watcher.now in
    let given = c.give.ensures.given in
    let after = after g.K.TruthKind.algebra g.K.TruthKind.means watcher.program watcher.nesting _ (own_of c.args.lists) _ c.args.lists.working.now _ c.args.event _ g.K.TruthKind.laws c.give.result _ c.give.ensures.program given in
    record {
      given = given;
      program = c.give.ensures.program;
      looks_back = after.looks_back;
      leaves = after.leaves;
      goes_on = after.goes_on;
    }
