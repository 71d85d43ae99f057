-- An answering by the definitions themselves: it keeps the promise.
use Rattle.std.proofs.Common.{◌≡◌, ℕ, suc, ◌<◌, Bool, true, false, ◌↔◌, List, [], ◌∷◌, ◌++◌, length, is_err, Some, None, Ok, Err, Option, sym, refl, ap, ◌∙◌, subst, append-nil}
use Rattle.std.proofs.lemmas.Option.{none-some}
use Rattle.std.specs.Result.{result_err}
use Rattle.grammar.specs.Grammar.{Tree}
use Rattle.kinds.specs.Two.{two, two_means}
use Rattle.kinds.specs.declared.two.Two.{Two}
use Rattle.kinds.specs.declared.two.Two.TheVariants.{No, Yes}
use Rattle.reels.specs.Nesting.{start, follow, judged}
use Rattle.reels.specs.Reels.{Begins, nothing}
use Rattle.reels.specs.declared.Event.{Event}
use Rattle.reels.proofs.Begins.{event_begins, refused_exactly}
use Rattle.history.specs.Moments.{Moment, events}
use Rattle.history.specs.Value.{value}
use Rattle.history.proofs.Prefix.{events_append}
use Rattle.program.specs.Programs.{predicates, HasAll}
use Rattle.program.proofs.Facts.{predicates_all}
use Rattle.watching.specs.Faults.{max_events}
use Rattle.watching.specs.Refusals.{fault_of, refusal_by}
use Rattle.watching.specs.declared.Verdict.{Verdict}
use Rattle.watching.specs.declared.WatchFault.{WatchFault}
use Rattle.runs.specs.Runs.{Answer, Exchange, if_accepted, accepted}
use Rattle.runs.specs.Promise.{Answered}
use Rattle.runs.proofs.Looking.{accepted_push, err_fault}
use Rattle.watching.proofs.Passing.{passes, only_fault}
use Rattle.promise.specs.ShutOut.{KeptBySome}
use Rattle.promise.specs.Watchers.{Answering, Exchanged, none, more, past}
use Rattle.promise.proofs.Feeding.{asked}

abbrev as_two : Bool → Two
as_two true = Yes
as_two false = No

as_two_means : (b : Bool) → two_means (as_two b) ≡ b
as_two_means true = refl
as_two_means false = refl

abbrev unless_refused : Option WatchFault → Verdict Two → Answer Two
unless_refused None v = Ok v
unless_refused (Some g) v = Err g

is_refusal : (o : Option WatchFault) (v : Verdict Two) → result_err (unless_refused o v) ≡ o
is_refusal None v = refl
is_refusal (Some g) v = refl

is_verdict : (o : Option WatchFault) (v u : Verdict Two) → unless_refused o v ≡ Ok u → v ≡ u
is_verdict None v u q = cc
is_verdict (Some g) v u q = absurd (none-some _ (sym (ap result_err q)))

module _ (t : Tree) (d : ℕ) where
  abbrev refusal_of : List (Moment two.Val) → Event → List Two → Option WatchFault
  refusal_of h e r = refusal_by None (suc (length h)) (judged d (follow start (events h)) e) (predicates t) (length r) (length h)

  abbrev verdict_of : List (Moment two.Val) → Event → List Two → Verdict Two
  verdict_of h e r = record { number = suc (length h); value = as_two (value two t (h ++ asked e r ∷ []) (suc (length h))) }

  abbrev right : Answering Two
  right xs e r = unless_refused (refusal_of (past xs) e r) (verdict_of (past xs) e r)

  begins_next : (h : List (Moment two.Val)) (e : Event) (r : List Two) → Begins d (events h) → (o : Option WatchFault) → refusal_of h e r ≡ o → Begins d (events (h ++ if_accepted (unless_refused o (verdict_of h e r)) (asked e r)))
  unfolding events
  begins_next h e r b None q = subst (Begins d) (sym (events_append h (asked e r ∷ []))) (event_begins d (events h) e b (passes None (suc (length h)) (judged d (follow start (events h)) e) (predicates t) (length r) (length h) q).fault)
  begins_next h e r b (Some g) q = subst (λ l. Begins d (events l)) (sym (append-nil h)) b

  begins_past : {xs : List (Exchange Two)} → Exchanged right xs → Begins d (events (past xs))
  unfolding events accepted
  begins_past none = ([], nothing)
  begins_past (more {xs = xs} x e r) = subst (λ l. Begins d (events l)) (sym (accepted_push two two_means xs (record { event = e; reading = r; answer = right xs e r }))) (begins_next (past xs) e r (begins_past x) (refusal_of (past xs) e r) refl)

  module _ (h : List (Moment two.Val)) (b : Begins d (events h)) (e : Event) (r : List Two) where
    abbrev answer : Answer Two
    answer = unless_refused (refusal_of h e r) (verdict_of h e r)

    verdict_right : (v : Verdict Two) → answer ≡ Ok v → (v.number ≡ suc (length h)) × (two_means v.value ≡ value two t (h ++ asked e r ∷ []) (suc (length h)))
    verdict_right v q =
        let same = is_verdict (refusal_of h e r) (verdict_of h e r) v q in
        (sym (ap (λ u. u.number) same), sym (ap (λ u. two_means u.value) same) ∙ as_two_means (value two t (h ++ asked e r ∷ []) (suc (length h))))

    refused_right : HasAll (length r) t → length h < max_events → (is_err answer ≡ true) ↔ (Begins d (events h ++ e ∷ []) → ⊥)
    refused_right all room =
        let i = suc (length h) in
        let x = judged d (follow start (events h)) e in
        let only = is_refusal (refusal_of h e r) (verdict_of h e r) ∙ only_fault i x (predicates t) (length r) (length h) ((predicates_all (length r) t).1 all) room in
        let found = err_fault (fault_of i) answer x only in
        let exact = refused_exactly d (events h) e b in
        ((λ z. exact.0 (found.0 z)), (λ z. found.1 (exact.1 z)))

    answered_right : Answered two two_means t d h None e r answer
    answered_right = record { verdict = verdict_right; refused = λ s. refused_right; fault = is_refusal (refusal_of h e r) (verdict_of h e r) }

pub kept_by_some : KeptBySome
kept_by_some t d = (right t d, λ xs x e r. answered_right t d (past xs) (begins_past t d x) e r)
