-- Two kinds of events that begin a reel: steps in a row, and routines that call each other.
use Rattle.std.proofs.Common.{◌≡◌, ℕ, zero, suc, ◌+◌, ◌-◌, ◌<◌, ◌≤◌, cond, List, [], ◌∷◌, ◌++◌, length, replicate, None, sym, refl, ap, ◌∙◌, subst, ap₂, append-nil, arith, length-append, lt-ltb}
use lib.ListN.{length-replicate}
use Rattle.std.proofs.lemmas.List.{get_or_push}
use Rattle.reels.specs.Reels.{event, Reel, nothing, a_step, Begins}
use Rattle.reels.specs.Nesting.{calm, start, too_deep, unless, judged, next, follow}
use Rattle.reels.specs.declared.Event.{Event}
use Rattle.reels.specs.declared.EventKind.{EventKind}
use Rattle.reels.specs.declared.EventKind.TheVariants.{Step, Call, Begin, End}
use Rattle.reels.proofs.Begins.{event_begins}
use Rattle.history.specs.Moments.{blank, numbered, is, tally, open_at}
use Rattle.history.proofs.Alike.{alike_append, tally_alike}
use Rattle.runs.proofs.Nests.{follow_last}

abbrev pub a_walk : ℕ → List Event
a_walk n = replicate n (event Step 0)

steps_reel : (d n : ℕ) → Reel d (a_walk n)
steps_reel d zero = nothing
steps_reel d (suc n) = a_step (steps_reel d n)

pub steps_begin : (d n : ℕ) → Begins d (a_walk n)
steps_begin d n = ([], subst (Reel d) (sym (append-nil (a_walk n))) (steps_reel d n))

walk_more : (n : ℕ) → a_walk (suc n) ≡ a_walk n ++ event Step 0 ∷ []
walk_more zero = refl
walk_more (suc n) = ap (λ l. event Step 0 ∷ l) (walk_more n)

pub step_begins : (d n : ℕ) → Begins d (a_walk n ++ event Step 0 ∷ [])
step_begins d n = subst (Begins d) (walk_more n) (steps_begin d (suc n))

-- n routines open, each called by the one before it
unfoldable pub calls : ℕ → List Event
calls zero = []
calls (suc n) = (calls n ++ event Call 1 ∷ []) ++ event Begin 1 ∷ []

pub calls_length : (n : ℕ) → length (calls n) ≡ n + n
unfolding calls
calls_length zero = refl
calls_length (suc n) = simp length-append (omega (arith, calls_length n))

calls_nest : (n : ℕ) → follow start (calls n) ≡ record { opened = replicate n 1; pending = calm }
unfolding calls
calls_nest zero = refl
calls_nest (suc n) =
    follow_last start (calls n ++ event Call 1 ∷ []) (event Begin 1)
    ∙ ap (λ s. next s (event Begin 1)) (follow_last start (calls n) (event Call 1) ∙ ap (λ s. next s (event Call 1)) (calls_nest n))

call_taken : (d n : ℕ) → n < d → judged d (follow start (calls n)) (event Call 1) ≡ None
call_taken d n h = ap (λ s. judged d s (event Call 1)) (calls_nest n) ∙ ap (λ b. unless b too_deep) (lt-ltb (length (replicate n 1)) d (subst (λ k. k < d) (sym (length-replicate n 1)) h))

begin_taken : (d n : ℕ) → judged d (follow start (calls n ++ event Call 1 ∷ [])) (event Begin 1) ≡ None
begin_taken d n = ap (λ s. judged d s (event Begin 1)) (follow_last start (calls n) (event Call 1))

pub calls_begin : (d n : ℕ) → n ≤ d → Begins d (calls n)
unfolding calls
calls_begin d zero h = ([], nothing)
calls_begin d (suc n) h = event_begins d (calls n ++ event Call 1 ∷ []) (event Begin 1) (event_begins d (calls n) (event Call 1) (calls_begin d n (omega arith)) (call_taken d n h)) (begin_taken d n)

pub call_begins : (d n : ℕ) → n < d → Begins d (calls n ++ event Call 1 ∷ [])
call_begins d n h = event_begins d (calls n) (event Call 1) (calls_begin d n (omega arith)) (call_taken d n h)

tally_push : (k : EventKind) (es : List Event) (e : Event) → tally k (es ++ e ∷ []) (length (es ++ e ∷ [])) ≡ cond (is k e) (suc (tally k es (length es))) (tally k es (length es))
unfolding tally numbered
tally_push k es e =
    let i = length es in
    let fs = es ++ e ∷ [] in
    let long : length fs ≡ suc i = simp length-append (omega arith) in
    ap (tally k fs) long
    ∙ ap₂ (λ x n. cond (is k x) (suc n) n) (get_or_push es e blank i refl) (tally_alike fs es k i (alike_append es (e ∷ [])))

tally_calls : (k : EventKind) (n : ℕ) → tally k (calls (suc n)) (length (calls (suc n))) ≡ cond (is k (event Begin 1)) (suc (cond (is k (event Call 1)) (suc (tally k (calls n) (length (calls n)))) (tally k (calls n) (length (calls n))))) (cond (is k (event Call 1)) (suc (tally k (calls n) (length (calls n)))) (tally k (calls n) (length (calls n))))
unfolding calls
tally_calls k n = tally_push k (calls n ++ event Call 1 ∷ []) (event Begin 1) ∙ ap (λ i. cond (is k (event Begin 1)) (suc i) i) (tally_push k (calls n) (event Call 1))

begun : (n : ℕ) → tally Begin (calls n) (length (calls n)) ≡ n
unfolding calls tally
begun zero = refl
begun (suc n) = tally_calls Begin n ∙ ap suc (begun n)

none_ended : (n : ℕ) → tally End (calls n) (length (calls n)) ≡ 0
unfolding calls tally
none_ended zero = refl
none_ended (suc n) = tally_calls End n ∙ none_ended n

pub calls_open : (n : ℕ) → open_at (calls n) (length (calls n)) ≡ n
unfolding open_at
calls_open n = ap₂ (λ i j. i - j) (begun n) (none_ended n) ∙ omega arith
