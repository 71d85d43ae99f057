use Rattle.reader.proofs.Trees.{some_tree}
use Rattle.watching.specs.Memory.{own_of}
use Rattle.watcher.proofs.Makings.{made_refusal, made_accepts, made_left, made_begins}
use Rattle.watcher.proofs.make.Goals as goal

pub returns : goal.returns
returns g c =
    let A = g.K.TruthKind.algebra in
    let f = g.K.TruthKind.means in
    let rule = c.args.rule.now in
    let p = c.of.result in
    let from = c.of.ensures.rule in
    let runs = c.of.ensures.runs in
    let d = c.args.limit in
    let lent = own_of c.args.lists in
    let working = c.args.lists.working.now in
    let answer = c.new.result in
    let made = c.new.ensures.made in
    record {
      accepts = made_accepts A f p rule from runs d lent _ working _ answer made;
      some_tree = some_tree rule;
      refusal = made_refusal A f p rule from runs d lent _ working _ answer made;
      left = made_left A f p rule from runs d lent _ working _ answer made c.new.ensures.program;
      begins = made_begins A f p rule from runs d lent _ working _ answer made c.new.ensures.program;
    }
