-- A two-valued verdict is satisfaction in the published logic.
use Rattle.std.proofs.Common.{◌≡◌, ℕ, suc, Bool, true, false, ◌↔◌, List, [], ◌∷◌, ◌++◌, length, IfOk, Ok, Err, sym, refl, ap, ◌∙◌, subst, arith, length-append}
use borrow.Author.Tests.{clash}
use Rattle.grammar.specs.Grammar.{Tree}
use Rattle.kinds.specs.Two.{two, two_means}
use Rattle.kinds.specs.TwoLaws.{two_laws}
use Rattle.kinds.specs.declared.two.Two.{Two}
use Rattle.kinds.specs.declared.two.Two.TheVariants.{No, Yes}
use Rattle.reader.specs.Rules.{TreeOf}
use Rattle.reels.specs.Reels.{Begins}
use Rattle.reels.specs.declared.Event.{Event}
use Rattle.history.specs.Moments.{Moment, events}
use Rattle.history.specs.Value.{value}
use Rattle.ptcaret.specs.Satisfaction.{Sat}
use Rattle.ptcaret.proofs.Satisfying.{value_is_satisfaction}
use Rattle.program.specs.declared.program.Program.{Program}
use Rattle.program.proofs.Facts.{runs}
use Rattle.watching.specs.Memory.{Own}
use Rattle.watching.specs.Calls.{Given}
use Rattle.watching.specs.declared.Nesting.{Nesting}
use Rattle.runs.specs.Runs.{Answer, Exchange, exchange, moment, accepted, Run, given}
use Rattle.runs.proofs.Looking.{looks_back, holds_run, accepted_push}
use Rattle.watcher.specs.Published.{Satisfies}

is_yes : (x : Two) → two_means x ≡ true → x ≡ Yes
is_yes Yes e = refl
is_yes No e = absurd (clash e)

is_no : (x : Two) → two_means x ≡ false → x ≡ No
is_no No e = refl
is_no Yes e = absurd (clash (sym e))

pub published : (p : Program) (t : Tree) → TreeOf p.rule t → (d : ℕ) (n n' : Nesting) (o o' : Own Two) (w w' : List Two) (e : Event) (r : List Two) (a : Answer Two) → Given two two_means p n o w e r a n' o' w' → (xs : List (Exchange Two)) → Run two two_means p d xs n o → IfOk a (λ v. Satisfies t (accepted two two_means xs) e r v)
published p t tree d n n' o o' w w' e r (Err f) g xs run = tt
published p t tree d n n' o o' w w' e r (Ok v) g xs run = record { yes = ((λ s. is_yes v.value (same ∙ sat.0.0 s)), (λ q. sat.0.1 (sym same ∙ ap two_means q))); no = ((λ s. is_no v.value (same ∙ sat.1.0 s)), (λ q. sat.1.1 (sym same ∙ ap two_means q))) }
  where
    x : Exchange Two
    x = exchange e r (Ok v)

    h : List (Moment Bool)
    h = accepted two two_means xs ++ moment two two_means e r ∷ []

    begins : Begins d (events h)
    begins = subst (λ l. Begins d (events l)) (accepted_push two two_means xs x) (holds_run two two_means two_laws p t (runs p t tree) d (given x w w' run g)).begins

    long : suc (length (accepted two two_means xs)) ≡ length h
    long = omega (arith, length-append (accepted two two_means xs) (moment two two_means e r ∷ []))

    same : two_means v.value ≡ value two t h (length h)
    same = ((looks_back two two_laws two_means p t tree d n n' o o' w w' e r (Ok v) g xs run).verdict v refl).1 ∙ ap (value two t h) long

    sat : (Sat t h ↔ (value two t h (length h) ≡ true)) × ((Sat t h → ⊥) ↔ (value two t h (length h) ≡ false))
    sat = value_is_satisfaction t h d (omega (arith, long)) begins
