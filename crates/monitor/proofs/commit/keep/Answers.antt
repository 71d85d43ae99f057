use Rattle.std.proofs.Common.{get_or, ap, ◌∙◌}
use Rattle.monitor.proofs.Kept.{keep_more}
use Rattle.monitor.proofs.commit.keep.Goals as goal

pub loop-i-preserved : goal.loop-i-preserved
loop-i-preserved g c d = keep_more d c.index-working-from.result c.loop-i.cells c.args.cells.now c.args.working.now c.args.numbers.now c.loop-i.i c.loop-i-test.true c.requires.room (c.requires.below c.loop-i.i 0 c.loop-i-test.true) (c.index-working-from.is ∙ ap (λ k. get_or c.args.working.now k c.index-working-from.result) c.from.ensures) (c.loop-i.invariant d)
