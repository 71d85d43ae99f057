-- Each way through `next`, by the first piece that is left.
use Rattle.std.proofs.Common.{◌≡◌, ◌<◌, ◌≤◌, ◌∷◌, length, get_or, sym, refl, ap, ◌∙◌, subst, Some, None, Err, rules, arith}
use Rattle.std.proofs.lemmas.Option.{MatchOption-at_some, MatchOption-at_none}
use Rattle.std.proofs.lemmas.Result.{err_from_is_err_and}
use Rattle.std.specs.Option.{ok_or}
use Rattle.std.specs.Result.{result_ok}
use Rattle.grammar.specs.Lexemes.{is_letter}
use Rattle.grammar.specs.Machine.{word_item, items_of}
use Rattle.grammar.specs.declared.TextFault.TheVariants.{UnknownWord}
use Rattle.lexer.specs.Answers.{bad_byte, unknown_word}
use Rattle.lexer.proofs.Pieces.{over_spaces, past_spaces}
use Rattle.lexer.proofs.Items.{here as items_from, nothing_left, first_stray, first_run, no_items, an_item, Cut, cut_open, cut_close, cut_word}
use Rattle.lexer.proofs.lexer.Lexer.next.Goals as goal
use Rattle.lexer.proofs.lexer.Lexer.next.Goals.{in-40, in-41, in_default-first+in_ok-word-in_default-first}

pub returns-in_default : goal.returns-in_default
returns-in_default c =
    let text = c.args.self.now.text.now in
    let place = c.skip_spaces-place.result in
    let past : length text ≤ place = search rules in
    let end = nothing_left text place past in
    let all = sym (over_spaces text c.args.self.now.at place c.skip_spaces-place.ensures.value) ∙ end in
    record { piece = (all, end); answer = (no_items all, no_items end); same_text = refl; unmoved = tt }

pub returns-in_default-2 : goal.returns-in_default-2
returns-in_default-2 c =
    let text = c.args.self.now.text.now in
    let place = c.skip_spaces-place.result in
    let there : place < length text = search rules in
    let here : c.in-Some.first.now ≡ get_or text place 0 = search rules in
    let stray =
    first_stray text place there (past_spaces text c.args.self.now.at place c.skip_spaces-place.ensures.value there)
    (λ e. omega arith) (λ e. omega arith) (ap is_letter (sym here) ∙ sym c.is_letter.ensures.value ∙ c.if-is_letter.false) in
    let e = sym (over_spaces text c.args.self.now.at place c.skip_spaces-place.ensures.value) ∙ stray in
    record { piece = (_, _, e, bad_byte refl); answer = (_, an_item e); same_text = refl; unmoved = refl }

pub returns-in_err-word-in_default-first : goal.returns-in_err-word-in_default-first
returns-in_err-word-in_default-first c =
    let text = c.args.self.now.text.now in
    let place = c.skip_spaces-place.result in
    let there : place < length text = search rules in
    let here : c.in-Some.first.now ≡ get_or text place 0 = search rules in
    let none : c.find.result ≡ None = c.ok_or.ensures.ok_part ∙ ap result_ok c.in_err-word-in_default-first.was in
    let fault : Err (UnknownWord place) ≡ c.ok_or.result = sym (c.ok_or.ensures.value ∙ ap (λ o. ok_or o (UnknownWord place)) none) in
    let same : UnknownWord place ≡ c.in_err-word-in_default-first.field-0.0 = cc (fault ∙ c.in_err-word-in_default-first.was) in
    let p = err_from_is_err_and c.from_residual.result c.from_residual.ensures.1 in
    let run =
    first_run text place c.run_end-end.result there (ap is_letter (sym here) ∙ sym c.is_letter.ensures.value ∙ c.if-is_letter.true) c.run_end-end.ensures.value in
    let e = sym (over_spaces text c.args.self.now.at place c.skip_spaces-place.ensures.value) ∙ run in
    rw (p.1, p.2, ← same)
    (record {
      piece = (_, _, e, unknown_word refl (MatchOption-at_none _ _ none c.find.ensures.named));
      answer = (_, an_item e ∙ ap (λ w. word_item place w ∷ items_from text c.run_end-end.result) (sym c.find.ensures.value ∙ none));
      same_text = refl;
      unmoved = refl;
    })

pub returns : goal.returns
returns c =
    let text = c.args.self.now.text.now in
    let place = c.skip_spaces-place.result in
    let there : place < length text = search rules in
    let here : c.in-Some.first.now ≡ get_or text place 0 = search rules in
    let cut : Cut text place c.match-first.token.0 c.match-first.token.1 =
    elim c.match-first.branch [
      | in-40 w ↦ subst (λ x. Cut text place x.0 x.1) (sym w.token-is) (cut_open text place there (sym here ∙ w.in-40.is))
      | in-41 w ↦ subst (λ x. Cut text place x.0 x.1) (sym w.token-is) (cut_close text place there (sym here ∙ w.in-41.is))
      | in_default-first+in_ok-word-in_default-first w ↦
          let found : w.find.result ≡ Some w.in_ok-word-in_default-first.word = w.ok_or.ensures.ok_part ∙ ap result_ok w.in_ok-word-in_default-first.was in
          subst (λ x. Cut text place x.0 x.1) (sym w.token-is)
          (cut_word text place w.run_end-end.result w.in_ok-word-in_default-first.word there
          (ap is_letter (sym here) ∙ sym w.is_letter.ensures.value ∙ w.if-is_letter.true) w.run_end-end.ensures.value
          (MatchOption-at_some _ _ _ found w.find.ensures.named) (sym w.find.ensures.value ∙ found))
    ] in
    let over = sym (over_spaces text c.args.self.now.at place c.skip_spaces-place.ensures.value) in
    record { piece = (cut.lexeme, over ∙ cut.pieces, cut.means); answer = ap items_of over ∙ cut.items; same_text = refl; unmoved = tt }
