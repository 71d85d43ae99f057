-- The invariant of `value_up_to`: what is left of the digits, read on from the number so far, gives the answer.
use Rattle.std.proofs.Common.{◌≡◌, drop}
use Rattle.words.proofs.Reading.{read_on}
use Rattle.words.proofs.value_up_to.Given as goal

abbrev pub invariant-loop-digit : goal.invariant-loop-digit
invariant-loop-digit l = read_on l.highest l.number (drop l.digit-index l.digits) ≡ read_on l.highest 0 l.digits
