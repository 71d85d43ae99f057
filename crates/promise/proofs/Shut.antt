-- For each wrong way, a few events after which it contradicts the promise.
use Rattle.std.proofs.Common.{◌≡◌, ℕ, suc, ◌<◌, true, false, List, [], ◌∷◌, ◌++◌, length, replicate, is_err, Some, Ok, Err, sym, refl, ap, ◌∙◌, subst, ap₂, true≢false, arith}
use lib.ListN.{length-replicate, length-map}
use Rattle.words.specs.declared.Operator.TheVariants.{Before}
use Rattle.grammar.specs.Grammar.{Tree, one}
use Rattle.kinds.specs.Two.{two, two_means}
use Rattle.kinds.specs.declared.two.Two.{Two}
use Rattle.kinds.specs.declared.two.Two.TheVariants.{No, Yes}
use Rattle.reels.specs.Reels.{event, Begins, nothing, a_step}
use Rattle.reels.specs.declared.Event.{Event}
use Rattle.reels.specs.declared.EventKind.TheVariants.{Step, Call, End}
use Rattle.history.specs.Moments.{Moment, events, readings, numbered, open_at}
use Rattle.history.specs.Value.{earlier, before, value}
use Rattle.program.specs.Programs.{predicates, HasAll}
use Rattle.program.proofs.Facts.{predicates_all}
use Rattle.watching.specs.Faults.{max_events}
use Rattle.watching.specs.declared.Verdict.{Verdict}
use Rattle.watching.specs.declared.EventFault.TheVariants.{NotInnermost}
use Rattle.watching.specs.declared.WatchFault.TheVariants.{AtEvent}
use Rattle.runs.specs.Runs.{Answer, if_accepted, accepted}
use Rattle.promise.specs.ShutOut.{first_verdict, FirstEventOnly, LaterEventsToo, OneVerdict, NoCells, SourceNotAsked, MadeUpNumbers, RefusedNumbered, RefusedWithoutCause, TooDeepEarly}
use Rattle.promise.specs.Trees.{word, p}
use Rattle.promise.specs.Watchers.{Answering, put, none, more, past, Keeps}
use Rattle.runs.proofs.Twinned.{error_of}
use Rattle.promise.proofs.Feeding.{asked, Fed, unfed, Next, next, fed_next, walk}
use Rattle.promise.proofs.Reached.{a_walk, steps_begin, step_begins, calls, calls_length, calls_begin, call_begins, calls_open}

abbrev a_step_event : Event
a_step_event = event Step 0

one_step : (d : ℕ) → Begins d (a_step_event ∷ [])
one_step d = ([], a_step nothing)

two_steps : (d : ℕ) → Begins d (a_step_event ∷ a_step_event ∷ [])
two_steps d = ([], a_step (a_step nothing))

-- a value does not mean both no and yes
not_both : (x y : Two) → x ≡ y → two_means x ≡ false → two_means y ≡ true → ⊥
not_both x y e a b = true≢false (sym b ∙ (ap two_means (sym e) ∙ a))

-- two steps, the first with the value x of p0 and the second with y
module _ (t : Tree) (all : HasAll 1 t) (d : ℕ) (f : Answering Two) (keeps : Keeps t d f) (x y : Two) where
  first : Next f (unfed f) t a_step_event (x ∷ [])
  unfolding events
  first = next f t d keeps (unfed f) a_step_event (x ∷ []) all (omega arith) (one_step d)

  fed : Fed f (asked a_step_event (x ∷ []) ∷ [])
  fed = fed_next f (unfed f) t a_step_event (x ∷ []) first

  second : Next f fed t a_step_event (y ∷ [])
  unfolding events
  second = next f t d keeps fed a_step_event (y ∷ []) all (omega arith) (two_steps d)

p0_asks : HasAll 1 (p 0)
p0_asks e = omega arith

-- the rule `p0`, with yes and then no
module _ (d : ℕ) (f : Answering Two) (keeps : Keeps (p 0) d f) where
  yes_first : two_means (first (p 0) p0_asks d f keeps Yes No).verdict.value ≡ true
  unfolding value events readings numbered
  yes_first = (first (p 0) p0_asks d f keeps Yes No).value

  no_second : two_means (second (p 0) p0_asks d f keeps Yes No).verdict.value ≡ false
  unfolding value events readings numbered
  no_second = (second (p 0) p0_asks d f keeps Yes No).value

first_is : (f : Answering Two) (e : Event) (r : List Two) (v : Verdict Two) → f [] e r ≡ Ok v → first_verdict (put f [] e r) ≡ Some v
first_is f e r v q = ap (λ a. first_verdict (record { event = e; reading = r; answer = a } ∷ [])) q

pub first_event_only : FirstEventOnly
unfolding unfed fed_next fed
first_event_only d f keeps wrong =
    let a = first (p 0) p0_asks d f keeps Yes No in
    let b = second (p 0) p0_asks d f keeps Yes No in
    let same = wrong _ _ _ a.verdict b.verdict b.gives (first_is f a_step_event (Yes ∷ []) a.verdict a.gives.verdict) in
    not_both b.verdict.value a.verdict.value same (no_second d f keeps) (yes_first d f keeps)

pub later_events_too : LaterEventsToo
later_events_too t d f keeps w = w.wrong ((keeps w.exchanges w.gives.exchanged w.event w.reading).verdict w.verdict w.gives.verdict).1

pub one_verdict : OneVerdict
one_verdict d f keeps wrong =
    let a = first (p 0) p0_asks d f keeps Yes No in
    let b = second (p 0) p0_asks d f keeps Yes No in
    not_both b.verdict.value a.verdict.value (wrong.1 _ _ _ b.verdict b.gives ∙ sym (wrong.1 _ _ _ a.verdict a.gives)) (no_second d f keeps) (yes_first d f keeps)

pub source_not_asked : SourceNotAsked
unfolding unfed value events readings numbered
source_not_asked d f keeps wrong =
    let a = first (p 0) p0_asks d f keeps Yes No in
    let b = first (p 0) p0_asks d f keeps No No in
    let same : Ok b.verdict ≡ Ok a.verdict = sym b.gives.verdict ∙ (wrong [] a_step_event (No ∷ []) (Yes ∷ []) none refl ∙ a.gives.verdict) in
    not_both b.verdict.value a.verdict.value (same_value same) b.value a.value
  where
    same_value : {u v : Verdict Two} → ◌≡◌ {A = Answer Two} (Ok u) (Ok v) → u.value ≡ v.value
    same_value {u} {v} e = let s : u ≡ v = cc in ap (λ w. w.value) s

pub no_cells : NoCells
unfolding unfed value events readings numbered before earlier
no_cells d f keeps wrong =
    let t = one (word Before 0) (p 0) in
    let a = first t p0_asks d f keeps Yes Yes in
    let b = second t p0_asks d f keeps Yes Yes in
    not_both a.verdict.value b.verdict.value (sym (wrong _ _ _ a.verdict b.verdict b.gives a.gives)) a.value b.value

-- a reading that has all predicates
abbrev full : Tree → List Two
full t = replicate (predicates t) Yes

full_has : (t : Tree) → HasAll (length (full t)) t
full_has t = (predicates_all (length (full t)) t).0 (omega (arith, length-replicate (predicates t) Yes))

count : (h : List (Moment two.Val)) {es : List Event} → events h ≡ es → length h ≡ length es
unfolding events
count h q = sym (length-map h (λ m. m.event)) ∙ ap length q

pub made_up_numbers : MadeUpNumbers
made_up_numbers t d g n room other f keeps wrong =
    let r = full t in
    let w = walk f t d keeps r (full_has t) (a_walk n) (steps_begin d n) (omega (arith, length-replicate n a_step_event)) in
    let long : length w.moments ≡ n = count w.moments w.are ∙ length-replicate n a_step_event in
    let v = next f t d keeps w.fed a_step_event r (full_has t) (omega arith) (subst (λ l. Begins d (l ++ a_step_event ∷ [])) (sym w.are) (step_begins d n)) in
    other (sym (ap g (ap length w.fed.accepted ∙ long)) ∙ (sym (wrong _ _ _ v.verdict v.gives) ∙ (v.number ∙ ap suc long)))

pub refused_numbered : RefusedNumbered
unfolding accepted events
refused_numbered t d f keeps wrong =
    let r = full t in
    let e = event End 7 in
    let refused : f [] e r ≡ Err (AtEvent 1 NotInnermost) = error_of (f [] e r) (AtEvent 1 NotInnermost) (keeps [] none e r).fault in
    let nothing_accepted : past (put f [] e r) ≡ [] = ap (λ a. if_accepted a (asked e r) ++ []) refused in
    let F : Fed f [] = record { exchanges = put f [] e r; exchanged = more none e r; accepted = nothing_accepted } in
    let v = next f t d keeps F a_step_event r (full_has t) (omega arith) (one_step d) in
    let two_is_one : ◌≡◌ {A = ℕ} 1 2 = sym v.number ∙ wrong _ _ _ v.verdict v.gives in
    omega arith

pub refused_without_cause : RefusedWithoutCause
refused_without_cause t d f keeps w = ((keeps w.exchanges w.exchanged w.event w.reading).refused refl w.all_read w.numbers_left).0 w.refused w.begins

pub too_deep_early : TooDeepEarly
too_deep_early t d low f keeps wrong =
    let r = full t in
    let short : length (calls d) < max_events = omega (arith, calls_length d) in
    let w = walk f t (suc d) keeps r (full_has t) (calls d) (calls_begin (suc d) d (omega arith)) (omega arith) in
    let long : length w.moments ≡ length (calls d) = count w.moments w.are in
    let v = next f t (suc d) keeps w.fed (event Call 1) r (full_has t) (omega arith) (subst (λ l. Begins (suc d) (l ++ event Call 1 ∷ [])) (sym w.are) (call_begins (suc d) d (omega arith))) in
    let open_now : open_at (events (past w.fed.exchanges)) (length (past w.fed.exchanges)) ≡ d = ap (λ l. open_at (events l) (length l)) w.fed.accepted ∙ (ap₂ open_at w.are long ∙ calls_open d) in
    let refused = wrong w.fed.exchanges 1 r w.fed.exchanged open_now in
    true≢false (sym refused ∙ ap is_err v.gives.verdict)
