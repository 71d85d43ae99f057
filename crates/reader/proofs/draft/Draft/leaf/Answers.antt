use Rattle.std.proofs.Common.{sym, ap, ◌∙◌, arith}
use Rattle.std.proofs.lemmas.Result.{err_from_is_err_and}
use Rattle.grammar.specs.Grammar.{leaf}
use Rattle.grammar.specs.Machine.{runs, unit_done}
use Rattle.reader.proofs.Ways.{leaf_in, leaf_many, Counted, Pushed, grown_leaf}
use Rattle.reader.proofs.draft.Draft.leaf.Goals as goal

pub returns-in_err-count : goal.returns-in_err-count
returns-in_err-count c =
    record {
      read =
          λ n deep xs.
          let p = err_from_is_err_and c.from_residual.result c.from_residual.ensures.1 in
          let many = c.in_err-count.ensures.counted in
          rw (p.1, p.2, many.0) (λ K h. leaf_many n _ _ K c.args.word xs c.requires (omega arith) many.1);
    }

pub returns : goal.returns
returns c =
    let more = c.in_ok-count.ensures in
    let counted : Counted c.args.self.now c.count.new.self = record { same = more.same; words = more.counted } in
    let pushed : Pushed c.count.new.self c.push.new.self c.args.word 0 = record { pushed = c.push.ensures.pushed; words = c.push.ensures.words } in
    record {
      read =
          λ n deep xs. (
            leaf c.args.word,
            (λ K h.
                leaf_in n _ _ K c.args.word xs c.requires (omega arith) (omega (arith, more.counted, c.count.new.self.few))
                ∙ ap (λ k. runs n (unit_done K (leaf c.args.word)) k xs) (sym (c.push.ensures.words ∙ more.counted))),
            grown_leaf counted pushed,
          );
    }
