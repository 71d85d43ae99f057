-- Each way through `answer` has its line; an input has no other.
use Rattle.std.proofs.Common.{ℕ, ◌≤◌, List, length}
use Rattle.text.specs.Writing.{Written}
use Rattle.listing.specs.Lines.{max_line}
use Rattle.listing.proofs.Answering.{one_line, of_each}
use Rattle.listing.proofs.answer.Goals as goal

abbrev within : List ℕ → Type 0
within line = length line ≤ max_line

pub returns-in-Ok : goal.returns-in-Ok
returns-in-Ok c =
    let (t, tree, mine) = c.in-Ok.ensures.answer in
    record {
      some_line = (_, mine);
      one_line = one_line c.args.input.now;
      short = of_each c.args.input.now _ within mine (c.rule_line.ensures.short t tree);
      written = of_each c.args.input.now _ (λ y. Written c.args.out.now c.rule_line.new.out y c.rule_line.result) mine (c.rule_line.ensures.written t tree);
    }

pub returns-in-Err : goal.returns-in-Err
returns-in-Err c =
    let mine = c.in-Err.ensures.answer in
    record {
      some_line = (_, mine);
      one_line = one_line c.args.input.now;
      short = of_each c.args.input.now _ within mine c.refusal_line.ensures.short;
      written = of_each c.args.input.now _ (λ y. Written c.args.out.now c.refusal_line.new.out y c.refusal_line.result) mine c.refusal_line.ensures.written;
    }
