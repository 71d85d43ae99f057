-- Each way through the functions, by what it comes to.
use Rattle.std.proofs.Common.{◌≡◌, ◌-◌, ◌∷◌, length, sym, refl, ap, ◌∙◌, ap₂, arith}
use Rattle.std.proofs.lemmas.Result.{err_from_is_err_and}
use Rattle.grammar.specs.Grammar.{Tree, one, two, takes}
use Rattle.grammar.specs.Machine.{token, inside, first, second, under, want, had, refused, runs, unit_done}
use Rattle.words.specs.declared.Operands.TheVariants.{Two}
use Rattle.grammar.specs.declared.TextFault.TheVariants.{EndsEarly}
use Rattle.lexer.specs.Answers.{left, text_of}
use Rattle.reader.specs.Reading.{behind}
use Rattle.reader.proofs.Steps.{at_end, at_bad, first_depth, second_depth, second_done, under_done}
use Rattle.reader.proofs.Ways.{next_none, next_some, had_run, want_second, paren_deep, paren_in, inside_level, close_missing, close_found, one_deep, one_many, one_in, under_level, two_wanted, close_wanted, two_many, alone_by_token, alone_by_word, rule_by_next, size_some, Pushed, Counted, grown_one, grown_two}
use Rattle.reader.proofs.parser.Parser.+in_parentheses_one_sided_rule_unit.Goals as goal

pub in_parentheses-returns-in_err-below : goal.in_parentheses-returns-in_err-below
in_parentheses-returns-in_err-below t c =
    record {
      read =
          let p = err_from_is_err_and c.from_residual.result c.from_residual.ensures.1 in
          let none = c.in_err-below.ensures.level in
          rw (p.1, p.2, none.0) ((λ K h. paren_deep _ _ _ c.args.deep K _ h none.1), refl);
    }

pub in_parentheses-returns-in_err-next : goal.in_parentheses-returns-in_err-next
in_parentheses-returns-in_err-next t c =
    record {
      read =
          let p = err_from_is_err_and c.from_residual-in_err-next.result c.from_residual-in_err-next.ensures.1 in
          rw (p.1, p.2) ((λ K h. paren_in _ _ _ c.args.deep c.in_ok-below.below K _ h c.in_ok-below.ensures.level c.args.self.now.draft.few ∙ c.in_err-next.ensures.read.0 (inside K) (inside_level c.args.deep c.in_ok-below.below K h c.in_ok-below.ensures.level)), c.in_err-next.ensures.read.1);
    }

pub in_parentheses-returns-in_default : goal.in_parentheses-returns-in_default
in_parentheses-returns-in_default t c =
    let rd = c.in_ok-next.ensures.read in
    record {
      read = (
        (λ K h.
            paren_in _ _ _ c.args.deep c.in_ok-below.below K _ h c.in_ok-below.ensures.level c.args.self.now.draft.few
            ∙ rd.1 (inside K) (inside_level c.args.deep c.in_ok-below.below K h c.in_ok-below.ensures.level)
            ∙ ap (λ o. behind (length (text_of c.args.self.now.lexer)) (inside K) rd.0 c.rule.new.self.draft.words o (left c.rule.new.self.lexer)) c.in_default.is
            ∙ ap (λ n. refused (EndsEarly n)) (sym (c.text_len.ensures.value ∙ ap length rd.3))),
        rd.3,
      );
    }

pub in_parentheses-returns-in_default-token : goal.in_parentheses-returns-in_default-token
in_parentheses-returns-in_default-token t c =
    let rd = c.in_ok-next.ensures.read in
    record {
      read = (
        (λ K h.
            paren_in _ _ _ c.args.deep c.in_ok-below.below K _ h c.in_ok-below.ensures.level c.args.self.now.draft.few
            ∙ rd.1 (inside K) (inside_level c.args.deep c.in_ok-below.below K h c.in_ok-below.ensures.level)
            ∙ ap (λ o. behind (length (text_of c.args.self.now.lexer)) (inside K) rd.0 c.rule.new.self.draft.words o (left c.rule.new.self.lexer)) c.in-Some.is
            ∙ close_missing _ _ rd.0 K c.in-Some.next _ c.in_default-token.not-Close),
        rd.3,
      );
    }

pub in_parentheses-returns : goal.in_parentheses-returns
in_parentheses-returns t c =
    let rd = c.in_ok-next.ensures.read in
    record {
      read = (
        (
          rd.0,
          (λ K h.
              paren_in _ _ _ c.args.deep c.in_ok-below.below K _ h c.in_ok-below.ensures.level c.args.self.now.draft.few
              ∙ rd.1 (inside K) (inside_level c.args.deep c.in_ok-below.below K h c.in_ok-below.ensures.level)
              ∙ ap (λ o. behind (length (text_of c.args.self.now.lexer)) (inside K) rd.0 c.rule.new.self.draft.words o (left c.rule.new.self.lexer)) c.in-Some.is
              ∙ close_found _ _ rd.0 K c.in-Some.next _ c.in-Close.is (omega arith) c.rule.new.self.draft.few),
          rd.2,
        ),
        rd.3,
      );
    }

pub one_sided-returns-in_err-below : goal.one_sided-returns-in_err-below
one_sided-returns-in_err-below t c =
    record {
      read =
          let p = err_from_is_err_and c.from_residual.result c.from_residual.ensures.1 in
          let none = c.in_err-below.ensures.level in
          rw (p.1, p.2, none.0) ((λ K h. one_deep _ _ _ c.args.deep K c.args.word _ c.requires h none.1), refl);
    }

pub one_sided-returns-in_err-count : goal.one_sided-returns-in_err-count
one_sided-returns-in_err-count t c =
    record {
      read =
          let p = err_from_is_err_and c.from_residual-in_err-count.result c.from_residual-in_err-count.ensures.1 in
          let many = c.in_err-count.ensures.counted in
          rw (p.1, p.2, many.0) ((λ K h. one_many _ _ _ c.args.deep c.in_ok-below.below K c.args.word _ c.requires h c.in_ok-below.ensures.level many.1), refl);
    }

pub one_sided-returns-in_err-unit : goal.one_sided-returns-in_err-unit
one_sided-returns-in_err-unit t c =
    let more = c.in_ok-count.ensures in
    record {
      read =
          let p = err_from_is_err_and c.from_residual-in_err-unit.result c.from_residual-in_err-unit.ensures.1 in
          rw (p.1, p.2) (
            (λ K h.
                one_in _ _ _ c.args.deep c.in_ok-below.below K c.args.word _ c.requires h c.in_ok-below.ensures.level (omega (arith, more.counted, c.count.new.self.few))
                ∙ ap (λ k. runs (length (text_of c.args.self.now.lexer)) (want (under c.args.word K)) k (left c.args.self.now.lexer)) (sym more.counted)
                ∙ c.in_err-unit.ensures.read.0 (under c.args.word K) (under_level c.args.deep c.in_ok-below.below c.args.word K h c.in_ok-below.ensures.level)),
            c.in_err-unit.ensures.read.1,
          );
    }

pub one_sided-returns : goal.one_sided-returns
one_sided-returns t c =
    let more = c.in_ok-count.ensures in
    let rd = c.in_ok-unit.ensures.read.0 in
    let counted : Counted c.args.self.now.draft c.count.new.self = record { same = more.same; words = more.counted } in
    let pushed : Pushed c.unit.new.self.draft c.push.new.self c.args.word 0 = record { pushed = c.push.ensures.pushed; words = c.push.ensures.words } in
    record {
      read = (
        (
          one c.args.word rd.0,
          (λ K h.
              one_in _ _ _ c.args.deep c.in_ok-below.below K c.args.word _ c.requires h c.in_ok-below.ensures.level (omega (arith, more.counted, c.count.new.self.few))
              ∙ ap (λ k. runs (length (text_of c.args.self.now.lexer)) (want (under c.args.word K)) k (left c.args.self.now.lexer)) (sym more.counted)
              ∙ rd.1 (under c.args.word K) (under_level c.args.deep c.in_ok-below.below c.args.word K h c.in_ok-below.ensures.level)
              ∙ ap (λ S. runs (length (text_of c.args.self.now.lexer)) S c.unit.new.self.draft.words (left c.unit.new.self.lexer)) (under_done c.args.word K rd.0)
              ∙ ap (λ k. runs (length (text_of c.args.self.now.lexer)) (unit_done K (one c.args.word rd.0)) k (left c.unit.new.self.lexer)) (sym c.push.ensures.words)),
          grown_one counted rd.2 pushed,
        ),
        c.in_ok-unit.ensures.read.1,
      );
    }

pub rule-returns-in_err-unit : goal.rule-returns-in_err-unit
rule-returns-in_err-unit t c =
    record {
      read =
          let p = err_from_is_err_and c.from_residual.result c.from_residual.ensures.1 in
          rw (p.1, p.2) ((λ K h. c.in_err-unit.ensures.read.0 (first K) (omega (arith, first_depth K))), c.in_err-unit.ensures.read.1);
    }

pub rule-overflow_sub-operand : goal.rule-overflow_sub-operand
rule-overflow_sub-operand t c =
    let rd = c.in_ok-unit.ensures.read.0 in
    omega (arith, size_some rd.0, rd.2.len, c.len-operand.ensures.value)

pub rule-returns-in_err-next : goal.rule-returns-in_err-next
rule-returns-in_err-next t c =
    let a = c.in_err-next.ensures.answer in
    let rd = c.in_ok-unit.ensures.read.0 in
    let first_unit = had_run _ c.args.deep _ _ _ _ _ rd.0 rd.1 a.1 in
    record {
      read =
          let p = err_from_is_err_and c.from_residual-in_err-next.result c.from_residual-in_err-next.ensures.1 in
          rw (p.1, p.2) ((λ K h. first_unit K h ∙ at_bad _ _ (had rd.0 K) _ a.0), c.next.ensures.same_text ∙ c.in_ok-unit.ensures.read.1);
    }

pub rule-returns-in_default : goal.rule-returns-in_default
rule-returns-in_default t c =
    let rd = c.in_ok-unit.ensures.read.0 in
    let first_unit = had_run _ c.args.deep _ _ _ _ _ rd.0 rd.1 (next_none (left c.unit.new.self.lexer) (left c.next.new.self) c.in_default.is c.in_ok-next.ensures.answer) in
    record { read = (rd.0, (λ K h. first_unit K h ∙ at_end _ _ (had rd.0 K)), rd.2, c.next.ensures.same_text ∙ c.in_ok-unit.ensures.read.1) }

pub rule-returns-in_default-token : goal.rule-returns-in_default-token
rule-returns-in_default-token t c =
    let rd = c.in_ok-unit.ensures.read.0 in
    let first_unit = had_run _ c.args.deep _ _ _ _ _ rd.0 rd.1 (next_some (left c.unit.new.self.lexer) (left c.next.new.self) c.in-Some.is c.in_ok-next.ensures.answer) in
    record { read = (rd.0, (λ K h. first_unit K h ∙ alone_by_token _ _ rd.0 K c.in-Some.next _ c.in_default-token.not-Word), rd.2, c.next.ensures.same_text ∙ c.in_ok-unit.ensures.read.1) }

pub rule-returns-in_default-operands_of : goal.rule-returns-in_default-operands_of
rule-returns-in_default-operands_of t c =
    let rd = c.in_ok-unit.ensures.read.0 in
    let first_unit = had_run _ c.args.deep _ _ _ _ _ rd.0 rd.1 (next_some (left c.unit.new.self.lexer) (left c.next.new.self) c.in-Some.is c.in_ok-next.ensures.answer) in
    record {
      read = (rd.0, (λ K h. first_unit K h ∙ alone_by_word _ _ rd.0 K c.in-Some.next c.in-Word.word _ c.in-Word.is (λ e. c.in_default-operands_of.not-Two (c.operands_of.ensures.value ∙ e))), rd.2, c.next.ensures.same_text ∙ c.in_ok-unit.ensures.read.1);
    }

pub rule-returns-in_err-count : goal.rule-returns-in_err-count
rule-returns-in_err-count t c =
    let rd = c.in_ok-unit.ensures.read.0 in
    let first_unit = had_run _ c.args.deep _ _ _ _ _ rd.0 rd.1 (next_some (left c.unit.new.self.lexer) (left c.next.new.self) c.in-Some.is c.in_ok-next.ensures.answer ∙ ap (λ x. token c.in-Some.next.place x ∷ left c.next.new.self) c.in-Word.is) in
    let two_sided : takes c.in-Word.word ≡ Two = sym c.operands_of.ensures.value ∙ c.in-Two.is in
    let many = c.in_err-count.ensures.counted in
    record {
      read =
          let p = err_from_is_err_and c.from_residual-in_err-count.result c.from_residual-in_err-count.ensures.1 in
          rw (p.1, p.2, many.0) ((λ K h. first_unit K h ∙ two_many _ _ _ rd.0 K c.in-Word.word _ two_sided (omega arith) many.1), c.next.ensures.same_text ∙ c.in_ok-unit.ensures.read.1);
    }

pub rule-returns-in_err-unit-2 : goal.rule-returns-in_err-unit-2
rule-returns-in_err-unit-2 t c =
    let rd = c.in_ok-unit.ensures.read.0 in
    let first_unit = had_run _ c.args.deep _ _ _ _ _ rd.0 rd.1 (next_some (left c.unit.new.self.lexer) (left c.next.new.self) c.in-Some.is c.in_ok-next.ensures.answer ∙ ap (λ x. token c.in-Some.next.place x ∷ left c.next.new.self) c.in-Word.is) in
    let two_sided : takes c.in-Word.word ≡ Two = sym c.operands_of.ensures.value ∙ c.in-Two.is in
    let more = c.in_ok-count.ensures in
    let second_unit = want_second _ c.args.deep _ _ c.count.new.self.words _ _ _ _ rd.0 c.in-Word.word first_unit two_sided (ap length (c.next.ensures.same_text ∙ c.in_ok-unit.ensures.read.1)) more.counted c.count.new.self.few in
    record {
      read =
          let p = err_from_is_err_and c.from_residual-in_err-unit-2.result c.from_residual-in_err-unit-2.ensures.1 in
          rw (p.1, p.2) ((λ K h. second_unit K h ∙ c.in_err-unit-2.ensures.read.0 (second c.in-Word.word rd.0 K) (omega (arith, second_depth c.in-Word.word rd.0 K))), c.in_err-unit-2.ensures.read.1 ∙ c.next.ensures.same_text ∙ c.in_ok-unit.ensures.read.1);
    }

pub rule-returns : goal.rule-returns
rule-returns t c =
    let rd = c.in_ok-unit.ensures.read.0 in
    let first_unit = had_run _ c.args.deep _ _ _ _ _ rd.0 rd.1 (next_some (left c.unit.new.self.lexer) (left c.next.new.self) c.in-Some.is c.in_ok-next.ensures.answer ∙ ap (λ x. token c.in-Some.next.place x ∷ left c.next.new.self) c.in-Word.is) in
    let two_sided : takes c.in-Word.word ≡ Two = sym c.operands_of.ensures.value ∙ c.in-Two.is in
    let more = c.in_ok-count.ensures in
    let second_unit = want_second _ c.args.deep _ _ c.count.new.self.words _ _ _ _ rd.0 c.in-Word.word first_unit two_sided (ap length (c.next.ensures.same_text ∙ c.in_ok-unit.ensures.read.1)) more.counted c.count.new.self.few in
    let re = c.in_ok-unit-2.ensures.read.0 in
    let counted : Counted c.unit.new.self.draft c.count.new.self = record { same = more.same; words = more.counted } in
    let pushed : Pushed c.unit-2.new.self.draft c.push.new.self c.in-Word.word (c.len-operand.result - 1) = record { pushed = c.push.ensures.pushed; words = c.push.ensures.words } in
    let tree : Tree = two c.in-Word.word rd.0 re.0 in
    record {
      read =
          rule_by_next c.args.deep _ (left c.unit-2.new.self.lexer) c.args.self.now (record { lexer = c.next-2.new.self; draft = c.push.new.self }) tree c.next-2.result
          (λ K h.
          second_unit K h ∙ re.1 (second c.in-Word.word rd.0 K) (omega (arith, second_depth c.in-Word.word rd.0 K))
          ∙ ap₂ (λ n k. runs n (unit_done (second c.in-Word.word rd.0 K) re.0) k (left c.unit-2.new.self.lexer)) (ap length (c.next.ensures.same_text ∙ c.in_ok-unit.ensures.read.1)) (sym c.push.ensures.words)
          ∙ ap (λ S. runs (length (text_of c.args.self.now.lexer)) S c.push.new.self.words (left c.unit-2.new.self.lexer)) (second_done c.in-Word.word rd.0 K re.0))
          (grown_two rd.2 counted re.2 pushed (ap (λ n. n - 1) c.len-operand.ensures.value))
          (c.next-2.ensures.same_text ∙ c.in_ok-unit-2.ensures.read.1 ∙ c.next.ensures.same_text ∙ c.in_ok-unit.ensures.read.1)
          c.next-2.ensures.answer;
    }

pub unit-returns-in_err-place : goal.unit-returns-in_err-place
unit-returns-in_err-place t c =
    record {
      read =
          let p = err_from_is_err_and c.from_residual.result c.from_residual.ensures.1 in
          let a = c.in_err-place.ensures.answer in
          rw (p.1, p.2) ((λ K h. ap (runs _ (want K) _) a.1 ∙ at_bad _ _ (want K) _ a.0), c.next.ensures.same_text);
    }

pub unit-returns-in_default : goal.unit-returns-in_default
unit-returns-in_default t c =
    record {
      read = (
        (λ K h.
            ap (runs (length (text_of c.args.self.now.lexer)) (want K) c.args.self.now.draft.words) (next_none (left c.args.self.now.lexer) (left c.next.new.self) c.in_default.is c.in_ok-place.ensures.answer)
            ∙ at_end _ _ (want K)
            ∙ ap (λ n. refused (EndsEarly n)) (sym (c.text_len.ensures.value ∙ ap length c.next.ensures.same_text))),
        c.next.ensures.same_text,
      );
    }

pub unit-returns-in-Close : goal.unit-returns-in-Close
unit-returns-in-Close t c =
    record {
      read = (
        (λ K h.
            ap (runs (length (text_of c.args.self.now.lexer)) (want K) c.args.self.now.draft.words) (next_some (left c.args.self.now.lexer) (left c.next.new.self) c.in-Some.is c.in_ok-place.ensures.answer)
            ∙ ap (λ x. runs (length (text_of c.args.self.now.lexer)) (want K) c.args.self.now.draft.words (token c.in-Some.field-0.place x ∷ left c.next.new.self)) c.in-Close.is
            ∙ close_wanted _ _ _ K _),
        c.next.ensures.same_text,
      );
    }

pub unit-returns-in-Two : goal.unit-returns-in-Two
unit-returns-in-Two t c =
    record {
      read = (
        (λ K h.
            ap (runs (length (text_of c.args.self.now.lexer)) (want K) c.args.self.now.draft.words) (next_some (left c.args.self.now.lexer) (left c.next.new.self) c.in-Some.is c.in_ok-place.ensures.answer)
            ∙ ap (λ x. runs (length (text_of c.args.self.now.lexer)) (want K) c.args.self.now.draft.words (token c.in-Some.field-0.place x ∷ left c.next.new.self)) c.in-Word.is
            ∙ two_wanted _ _ _ K c.in-Word.word _ (sym c.operands_of.ensures.value ∙ c.in-Two.is)),
        c.next.ensures.same_text,
      );
    }
