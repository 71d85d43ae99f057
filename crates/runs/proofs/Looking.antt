-- In every run of a watcher, every event is answered by looking back.
use Rattle.std.proofs.Common.{◌≡◌, ℕ, suc, ◌<◌, true, ◌↔◌, List, [], ◌∷◌, ◌++◌, map, length, take, is_err, IfOk, Some, None, Ok, Err, Option, sym, refl, ap, ◌∙◌, subst, ap₂, append_assoc, append-nil}
use Rattle.std.proofs.lemmas.Option.{none-some}
use borrow.Author.Tests.{clash}
use Rattle.std.specs.Option.{option_map}
use Rattle.std.specs.Result.{result_err}
use Rattle.grammar.specs.Grammar.{Tree}
use Rattle.grammar.specs.Nodes.{size}
use Rattle.kinds.specs.Algebra.{Algebra, Laws}
use Rattle.reels.specs.Reels.{Begins}
use Rattle.reels.specs.Nesting.{Fault, start, follow, judged}
use Rattle.reels.specs.declared.Event.{Event}
use Rattle.reels.proofs.Begins.{refused_exactly}
use Rattle.history.specs.Moments.{Moment, events}
use Rattle.history.specs.Value.{value}
use Rattle.program.specs.Programs.{predicates, HasAll, wanted, Runs}
use Rattle.program.specs.declared.program.Program.{Program}
use Rattle.watching.specs.Faults.{max_events}
use Rattle.watching.specs.Memory.{Own, short_list}
use Rattle.watching.specs.Refusals.{number_of, fault_of, refusal_by, refusal}
use Rattle.watching.specs.Calls.{Given}
use Rattle.watching.specs.declared.Nesting.{Nesting}
use Rattle.watching.specs.declared.Verdict.{Verdict}
use Rattle.watching.specs.declared.WatchFault.{WatchFault}
use Rattle.runs.specs.Runs.{Answer, Exchange, if_accepted, moment, accepted, Run, made, given}
use Rattle.runs.specs.Promise.{Answered, LooksBack, node_values}
use Rattle.reader.specs.Rules.{TreeOf}
use Rattle.program.proofs.Facts.{runs, predicates_all}
use Rattle.watching.proofs.Passing.{only_fault}
use Rattle.runs.proofs.Holding.{Holds, holds_made, same_judged, value_back, number_back, nodes_back, holds_accepted}

-- an answer is a refusal exactly where there is a fault
pub err_fault : {K : Type 0} (f : Fault → WatchFault) (a : Answer K) (x : Option Fault) → result_err a ≡ option_map f x → (is_err a ≡ true) ↔ ((i : Fault) × (x ≡ Some i))
err_fault f (Ok v) None q = ((λ z. absurd (clash z)), (λ z. absurd (none-some _ z.1)))
err_fault f (Ok v) (Some i) q = absurd (none-some _ q)
err_fault f (Err g) None q = absurd (none-some _ (sym q))
err_fault f (Err g) (Some i) q = ((λ z. (i, refl)), (λ z. refl))

module _ (A : Algebra) {K : Type 0} (means : K → A.Val) where
  pub accepted_push : (xs : List (Exchange K)) (x : Exchange K) → accepted A means (xs ++ x ∷ []) ≡ accepted A means xs ++ if_accepted x.answer (moment A means x.event x.reading)
  unfolding accepted
  accepted_push [] x = append-nil (if_accepted x.answer (moment A means x.event x.reading))
  accepted_push (y ∷ xs) x = ap (λ l. if_accepted y.answer (moment A means y.event y.reading) ++ l) (accepted_push xs x) ∙ sym (append_assoc (if_accepted y.answer (moment A means y.event y.reading)) (accepted A means xs) (if_accepted x.answer (moment A means x.event x.reading)))

  module _ (p : Program) (n n' : Nesting) (o o' : Own K) (w w' : List K) (e : Event) (r : List K) where
    error_is : (a : Answer K) → Given A means p n o w e r a n' o' w' → result_err a ≡ refusal p n o (length w) e (length r)
    error_is (Ok v) g = sym g.0
    error_is (Err f) g = sym g.0

    module _ (L : Laws A) (t : Tree) (u : Runs p t) (d : ℕ) (h : List (Moment A.Val)) (c : Holds A means p t d h n o) where
      -- a refused event leaves all as it was
      holds_given : (a : Answer K) → Given A means p n o w e r a n' o' w' → Holds A means p t d (h ++ if_accepted a (moment A means e r)) n' o'
      holds_given (Ok v) g = holds_accepted A means p t d L u c g
      holds_given (Err f) g = subst (λ l. Holds A means p t d l n' o') (sym (append-nil h)) (subst (λ m. Holds A means p t d h m o') (sym g.1) (subst (λ q. Holds A means p t d h n q) (sym g.2) c))

      module _ (a : Answer K) (g : Given A means p n o w e r a n' o' w') where
        refusal_back : result_err a ≡ refusal_by (short_list p d o (length w)) (suc (length h)) (judged d (follow start (events h)) e) (predicates t) (length r) (length h)
        refusal_back = error_is a g ∙ (ap₂ (λ l j. refusal_by (short_list p l o (length w)) (number_of n) j (wanted p) (length r) n.accepted) c.limit (same_judged A means p t d L u c e) ∙ ap₂ (λ k m. refusal_by (short_list p d o (length w)) (suc k) (judged d (follow start (events h)) e) m (length r) k) c.accepted u.predicates)

        refused_back : short_list p d o (length w) ≡ None → HasAll (length r) t → length h < max_events → (is_err a ≡ true) ↔ (Begins d (events h ++ e ∷ []) → ⊥)
        refused_back s q l =
            let i = suc (length h) in
            let x = judged d (follow start (events h)) e in
            let only : result_err a ≡ option_map (fault_of i) x = refusal_back ∙ (ap (λ z. refusal_by z i x (predicates t) (length r) (length h)) s ∙ only_fault i x (predicates t) (length r) (length h) ((predicates_all (length r) t).1 q) l) in
            let found = err_fault (fault_of i) a x only in
            let exact = refused_exactly d (events h) e c.begins in
            ((λ z. exact.0 (found.0 z)), (λ z. found.1 (exact.1 z)))

        verdict_back : (v : Verdict K) → a ≡ Ok v → (v.number ≡ suc (length h)) × (means v.value ≡ value A t (h ++ moment A means e r ∷ []) (suc (length h)))
        verdict_back v q =
            let g' : Given A means p n o w e r (Ok v) n' o' w' = subst (λ z. Given A means p n o w e r z n' o' w') q g in
            (number_back A means p t d L u c g', value_back A means p t d L u c g')

        pub answered : Answered A means t d h (short_list p d o (length w)) e r a
        answered = record { verdict = verdict_back; refused = refused_back; fault = refusal_back }

  pub holds_run : Laws A → (p : Program) (t : Tree) → Runs p t → (d : ℕ) {xs : List (Exchange K)} {n : Nesting} {o : Own K} → Run A means p d xs n o → Holds A means p t d (accepted A means xs) n o
  unfolding accepted
  holds_run L p t u d (made o w w' g) = holds_made A means p t d L u g
  holds_run L p t u d (given {xs} {n} {n'} {o} {o'} x w w' run g) = subst (λ l. Holds A means p t d l n' o') (sym (accepted_push xs x)) (holds_given p n n' o o' w w' x.event x.reading L t u d (accepted A means xs) (holds_run L p t u d run) x.answer g)

pub looks_back : (A : Algebra) → Laws A → {K : Type 0} (means : K → A.Val) → LooksBack A means
looks_back A L means p t tree d n n' o o' w w' e r a g xs run = answered A means p n n' o o' w w' e r L t (runs p t tree) d (accepted A means xs) (holds_run A means L p t (runs p t tree) d run) a g

-- and an accepted one leaves the values of the nodes by looking back
pub nodes_left : (A : Algebra) → Laws A → {K : Type 0} (means : K → A.Val) → (p : Program) (t : Tree) → TreeOf p.rule t → (d : ℕ) (n n' : Nesting) (o o' : Own K) (w w' : List K) (e : Event) (r : List K) (a : Answer K) → Given A means p n o w e r a n' o' w' → (xs : List (Exchange K)) → Run A means p d xs n o → IfOk a (λ v. map means (take (size t) w') ≡ node_values A means t (accepted A means xs) (moment A means e r))
nodes_left A L means p t tree d n n' o o' w w' e r (Ok v) g xs run = nodes_back A means p t d L (runs p t tree) (holds_run A means L p t (runs p t tree) d run) g
nodes_left A L means p t tree d n n' o o' w w' e r (Err f) g xs run = tt
