-- Too long an input has its line; else the rule read, or the refusal of the text, has one.
use Rattle.std.proofs.Common.{subst, rules}
use Rattle.grammar.specs.Refusals.{Accepts, Refused}
use Rattle.listing.specs.Input.{first_line, too_long, a_rule, no_rule}
use Rattle.listing.proofs.rule_of.Goals as goal

pub returns-then-input-gt-MAX_INPUT : goal.returns-then-input-gt-MAX_INPUT
returns-then-input-gt-MAX_INPUT c = record { answer = rw c.from.ensures (too_long c.if-input-gt-MAX_INPUT.true) }

pub returns-in_err-read : goal.returns-in_err-read
returns-in_err-read c =
    let here : Refused (first_line c.args.input.now) c.in_err-read.field-0.0 = rw c.first_line.ensures.value at c.in_err-read.ensures.reading.outcome in
    let mine = no_rule c.if-input-gt-MAX_INPUT.false here in
    search rules

pub returns : goal.returns
returns c =
    let o = c.in_ok-read.ensures.reading.outcome in
    let here : Accepts (first_line c.args.input.now) o.0 = subst (λ x. Accepts x o.0) c.first_line.ensures.value o.1 in
    record { answer = (o.0, record { text = _; accepted = o.1; nodes = o.2 }, a_rule c.if-input-gt-MAX_INPUT.false here) }
