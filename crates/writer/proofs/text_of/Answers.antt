-- The rule's nodes have one tree, whose layout fits the line and reads back.
use Rattle.std.proofs.Common.{sym, ◌∙◌, arith}
use Rattle.reader.proofs.Trees.{some_tree}
use Rattle.writer.proofs.Laid.{layout_short, layout_accepted, same_tree}
use Rattle.writer.proofs.Draft.{some_node, in_order, last_tops, whole_text}
use Rattle.writer.proofs.text_of.Goals as goal

pub invariant_of-text : goal.invariant_of-text
invariant_of-text c = record { ordered = in_order c.args.rule.now _ c.nodes-nodes.ensures.value }

pub overflow_sub-nodes : goal.overflow_sub-nodes
overflow_sub-nodes c = some_node c.args.rule.now _ c.nodes-nodes.ensures.value

pub rule-requires : goal.rule-requires
rule-requires c =
    let some = some_node c.args.rule.now _ c.nodes-nodes.ensures.value in
    record { within = omega arith }

pub returns-clause-text : goal.returns-clause-text
returns-clause-text c =
    λ t x.
    let room = layout_short x.text t x.accepted in
    let T = last_tops c.args.rule.now _ c.nodes-nodes.ensures.value t x in
    whole_text c.new.ensures.value room (c.rule.ensures.text.line t T)

pub returns-clause-short : goal.returns-clause-short
returns-clause-short c = λ t x. layout_short x.text t x.accepted

pub returns-clause-some_tree : goal.returns-clause-some_tree
returns-clause-some_tree c = some_tree c.args.rule.now

pub returns-clause-one_tree : goal.returns-clause-one_tree
returns-clause-one_tree c = λ t u x y. same_tree x.text y.text t u x.accepted y.accepted (sym x.nodes ∙ y.nodes)

pub returns-clause-reads_back : goal.returns-clause-reads_back
returns-clause-reads_back c = λ t x. layout_accepted x.text t x.accepted
