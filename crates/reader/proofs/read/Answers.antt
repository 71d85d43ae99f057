-- Each way through `read`, by what the machine comes to.
use Rattle.std.proofs.Common.{sym, ap, ◌∙◌}
use Rattle.std.proofs.lemmas.Result.{err_from_is_err_and}
use Rattle.grammar.specs.Machine.{whole, refused}
use Rattle.grammar.proofs.Outcome.{accepted_sound, one_reading}
use Rattle.reader.proofs.Whole.{fresh, reading_err, reading_ok, long_outcome, fresh_outcome, whole_level, ended_none, ended_some, whole_read, more_read}
use Rattle.reader.proofs.read.Goals as goal

pub returns-in_err-new : goal.returns-in_err-new
returns-in_err-new c =
    let text = c.args.text.now in
    let p = err_from_is_err_and c.from_residual.result c.from_residual.ensures.1 in
    let long = c.in_err-new.ensures.refused in
    record { reading = rw (p.1, p.2, long.1) (reading_err text _ (long_outcome text long.0)); one_reading = one_reading text }

pub returns-in_err-rule : goal.returns-in_err-rule
returns-in_err-rule c =
    let text = c.args.text.now in
    let p = err_from_is_err_and c.from_residual-in_err-rule.result c.from_residual-in_err-rule.ensures.1 in
    let f = fresh c.in_ok-new.field-0 c.new-2.result c.in_ok-new.ensures.starts c.new-2.ensures.value in
    record { reading = rw (p.1, p.2) (reading_err text _ (fresh_outcome _ f (c.in_err-rule.ensures.read.0 whole whole_level))); one_reading = one_reading text }

pub returns-in_err-nothing_behind : goal.returns-in_err-nothing_behind
returns-in_err-nothing_behind c =
    let text = c.args.text.now in
    let p = err_from_is_err_and c.from_residual-in_err-nothing_behind.result c.from_residual-in_err-nothing_behind.ensures.1 in
    let x = ended_some c.in_ok-rule.field-0 (sym c.nothing_behind.ensures.value ∙ c.in_err-nothing_behind.was) in
    let o = more_read c.rule.new.self (fresh c.in_ok-new.field-0 c.new-2.result c.in_ok-new.ensures.starts c.new-2.ensures.value) x.0 x.1 c.in_ok-rule.ensures.read in
    record { reading = rw (p.1, p.2) (reading_err text _ (o ∙ ap refused x.2)); one_reading = one_reading text }

pub invariant_of-result : goal.invariant_of-result
invariant_of-result c =
    let text = c.args.text.now in
    let none = ended_none c.in_ok-rule.field-0 (sym c.nothing_behind.ensures.value ∙ c.in_ok-nothing_behind.was) in
    let w = whole_read c.rule.new.self (fresh c.in_ok-new.field-0 c.new-2.result c.in_ok-new.ensures.starts c.new-2.ensures.value) none c.in_ok-rule.ensures.read in
    record { accepted = ∣ (text, w.0, accepted_sound text w.0 w.1, w.2) ∣₁ }

pub returns : goal.returns
returns c =
    let text = c.args.text.now in
    let none = ended_none c.in_ok-rule.field-0 (sym c.nothing_behind.ensures.value ∙ c.in_ok-nothing_behind.was) in
    let w = whole_read c.rule.new.self (fresh c.in_ok-new.field-0 c.new-2.result c.in_ok-new.ensures.starts c.new-2.ensures.value) none c.in_ok-rule.ensures.read in
    record { reading = reading_ok text _ w.0 w.1 w.2; one_reading = one_reading text }
