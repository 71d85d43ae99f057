-- Two texts and their readings, by which a wrong reader is shut out.
use Rattle.std.proofs.Common.{◌≡◌, ℕ, true, List, ◌∷◌, is_err, IfOk, Ok, Err, codes, Result, sym, refl, ap, ◌∙◌, arith, MatchResult}
use Rattle.words.specs.declared.Operator.TheVariants.{True, False}
use Rattle.words.specs.Lookup.{lookup}
use Rattle.grammar.specs.Lexemes.{lexemes}
use Rattle.grammar.specs.Grammar.{Tree, leaf}
use Rattle.grammar.specs.Machine.{items_of, step, unit_done, depth, runs, outcome, accepted}
use Rattle.grammar.specs.Nodes.{nodes}
use Rattle.grammar.specs.Refusals.{Accepts}
use Rattle.grammar.specs.declared.Node.{Node}
use Rattle.grammar.specs.declared.TextFault.{TextFault}
use Rattle.grammar.proofs.Outcome.{accepted_sound}
use Rattle.reader.specs.Rules.{Writes}
use Rattle.reader.specs.Promise.{Reading, SomeTextAccepted, SomeTextNotTrue, truth}
use Rattle.reader.specs.declared.rule.Rule.{Rule}

abbrev falsehood : Tree
falsehood = leaf (record { operator = False; number = 0 })

reads_false : outcome (codes "false") ≡ accepted falsehood
unfolding lookup lexemes items_of step unit_done depth runs outcome
reads_false = refl

false_accepted : Accepts (codes "false") falsehood
false_accepted = accepted_sound (codes "false") falsehood reads_false

-- an answer to this text that keeps the promise is the rule `false`
answered : (r : Result Rule TextFault) → Reading (codes "false") r → MatchResult r (λ rule. Writes rule falsehood) (λ _. ⊥)
answered r a = a.accepts falsehood false_accepted

not_err : (r : Result Rule TextFault) → MatchResult r (λ rule. Writes rule falsehood) (λ _. ⊥) → is_err r ≡ true → ⊥
not_err (Ok rule) a e = let z : ◌≡◌ {A = ℕ} 0 1 = cc in omega arith
not_err (Err f) a e = a

pub some_text_accepted : SomeTextAccepted
some_text_accepted read keeps refuses = not_err (read (codes "false")) (answered (read (codes "false")) (keeps (codes "false"))) (refuses (codes "false"))

same_head : {n m : Node} {ns ms : List Node} → n ∷ ns ≡ m ∷ ms → n ≡ m
same_head e = cc

not_both : (rule : Rule) → Writes rule falsehood → Writes rule truth → ⊥
unfolding nodes
not_both rule f t =
    let e : False ≡ True = ap (λ n. n.word.operator) (same_head (sym f ∙ t)) in
    let z : ◌≡◌ {A = ℕ} 0 1 = cc in omega arith

not_true : (r : Result Rule TextFault) → MatchResult r (λ rule. Writes rule falsehood) (λ _. ⊥) → IfOk r (λ rule. Writes rule truth) → ⊥
not_true (Ok rule) f t = not_both rule f t
not_true (Err e) f t = f

pub some_text_not_true : SomeTextNotTrue
some_text_not_true read keeps constant = not_true (read (codes "false")) (answered (read (codes "false")) (keeps (codes "false"))) (constant (codes "false"))
