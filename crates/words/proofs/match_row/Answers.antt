-- The answers of `match_row`: the bytes begin with the row's text, or nothing fits.
use Rattle.std.proofs.Common.{sym, ◌∙◌}
use Rattle.std.proofs.lemmas.Slice.Eq.{strip_prefix_is}
use Rattle.std.proofs.lemmas.Option.{MatchOption-at_some, MatchOption-at_none}
use Rattle.words.specs.Lookup.{line_of}
use Rattle.words.proofs.Lookup.{fit_none, fit_rest}
use Rattle.words.proofs.match_row.Goals as goal
use Rattle.std.proofs.lemmas.Bool.Decides.{Decides-eqb}

pub returns-in_err-rest : goal.returns-in_err-rest
returns-in_err-rest c =
    let parts = strip_prefix_is Decides-eqb c.args.run.now c.args.row.now.text.now c.strip_prefix.result c.strip_prefix.ensures.cases in
    record { value = c.from_residual.ensures ∙ sym (fit_none (line_of c.args.row.now) c.args.run.now (MatchOption-at_none _ _ c.in_err-rest.was parts)) }

pub returns : goal.returns
returns c =
    let parts = strip_prefix_is Decides-eqb c.args.run.now c.args.row.now.text.now c.strip_prefix.result c.strip_prefix.ensures.cases in
    record { value = c.number_of.ensures.value ∙ sym (fit_rest (line_of c.args.row.now) c.args.run.now c.in_ok-rest.rest.now (MatchOption-at_some _ _ c.in_ok-rest.rest c.in_ok-rest.was parts)) }
