-- An operand's number is below its node's.
use Rattle.std.proofs.Common.{◌+◌, ◌*◌}
use Rattle.writer.proofs.rule_text.RuleText.+rule_unit.Given as goal

abbrev pub decreases-rule : goal.decreases-rule
decreases-rule l = 2 * l.top

abbrev pub decreases-unit : goal.decreases-unit
decreases-unit l = 2 * l.top + 1
