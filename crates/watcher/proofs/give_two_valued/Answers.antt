use Rattle.kinds.specs.Two.{two, two_means}
use Rattle.kinds.specs.TwoLaws.{two_laws}
use Rattle.watching.specs.Memory.{own_of}
use Rattle.watcher.proofs.Givings.{after}
use Rattle.watcher.proofs.Published.{published}
use Rattle.watcher.proofs.give_two_valued.Goals as goal

pub returns : goal.returns
returns g c =
    let watcher = c.args.watcher.now in
    let given = c.give.ensures.given in
    let after = after two two_means watcher.program watcher.nesting _ (own_of c.args.lists) _ c.args.lists.working.now _ c.args.event _ two_laws c.give.result _ c.give.ensures.program given in
    record {
      given = given;
      program = c.give.ensures.program;
      looks_back = after.looks_back;
      leaves = after.leaves;
      goes_on = after.goes_on;
      published = λ t x xs run. published watcher.program t x watcher.nesting.limit watcher.nesting _ (own_of c.args.lists) _ c.args.lists.working.now _ c.args.event _ c.give.result given xs run;
    }
