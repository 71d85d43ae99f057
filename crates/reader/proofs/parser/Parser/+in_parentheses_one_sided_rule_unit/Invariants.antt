use Rattle.std.proofs.Common.{◌+◌, ◌*◌}
use Rattle.reader.proofs.parser.Parser.+in_parentheses_one_sided_rule_unit.Given as goal

abbrev pub decreases-in_parentheses : goal.decreases-in_parentheses
decreases-in_parentheses l = 3 * l.deep

abbrev pub decreases-one_sided : goal.decreases-one_sided
decreases-one_sided l = 3 * l.deep

abbrev pub decreases-rule : goal.decreases-rule
decreases-rule l = 3 * l.deep + 2

abbrev pub decreases-unit : goal.decreases-unit
decreases-unit l = 3 * l.deep + 1
