-- The answers of `value_up_to`: the two ends of its loop.
use Rattle.std.proofs.Common.{sym, ◌∙◌}
use Rattle.words.proofs.Reading.{read_stop, read_all}
use Rattle.words.proofs.value_up_to.Goals as goal

pub returns-in_err-number : goal.returns-in_err-number
returns-in_err-number c = record { value = c.from_residual.ensures ∙ read_stop c.args.highest c.args.digits.now c.loop-digit.number c.loop-digit.digit-index c.loop-digit-test.true (sym c.with_digit.ensures.value ∙ c.in_err-number.was) c.loop-digit.invariant }

pub returns : goal.returns
returns c = record { value = read_all c.args.highest c.args.digits.now c.loop-digit.number c.loop-digit.digit-index c.loop-digit-test.false c.loop-digit.invariant }
