use Rattle.std.proofs.Common.{◌+◌, drop, ap, ◌∙◌, rules, tests, arith, take_all, length-drop}
use Rattle.std.proofs.lemmas.Iterator.{YieldsList-from_slice}
use Rattle.std.proofs.lemmas.Iterator.Consumers.{YieldsList-at, count_from_yields_List}
use Rattle.std.proofs.lemmas.Iterator.Search.{YieldsList-from_take_while}
use Rattle.std.proofs.lemmas.List.Folds.{length-prefix_len}
use Rattle.grammar.specs.Lexemes.{is_letter}
use Rattle.lexer.proofs.scan.run_end.Goals as goal

pub returns-clause-value : goal.returns-clause-value
returns-clause-value c =
    let rest = drop c.args.at c.args.text.now in
    ap (λ n. c.args.at + n)
    (count_from_yields_List c.take_while.result c.count.result c.count.ensures.ran
    (YieldsList-from_take_while _ is_letter (YieldsList-at c.take_while.ensures.source (YieldsList-from_slice rest (c.iter.ensures.rest ∙ take_all _ rest (omega (arith, length-drop c.args.at c.args.text.now))))) c.take_while.ensures.closure c.take_while.ensures.done (λ x r q k. search (rules, tests)))
    ∙ length-prefix_len is_letter rest)
