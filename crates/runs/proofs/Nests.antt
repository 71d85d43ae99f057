-- The nest that a watcher keeps, over an event that is taken.
use Rattle.std.proofs.Common.{◌≡◌, ℕ, zero, suc, pred, ◌+◌, ◌<◌, ◌≤◌, true, List, [], ◌∷◌, ◌++◌, map, reverse, length, take, None, sym, refl, ap, ◌∙◌, ap₂, arith, length-take, take-suc-set}
use Rattle.std.proofs.lemmas.Option.{none-some}
use mathlib.Core.List.{reverse-append}
use lib.ListN.{length-map, length-reverse}
use Rattle.std.proofs.lemmas.List.{take_more, map_push}
use Rattle.reels.specs.Reels.{Begins, fit}
use Rattle.reels.specs.Nesting.{Pending, calm, called, ended, Nest, start, unfit, in_turn, judged, outer, onward, next, follow}
use Rattle.reels.specs.declared.Event.{Event}
use Rattle.reels.specs.declared.EventKind.{EventKind}
use Rattle.reels.specs.declared.EventKind.TheVariants.{Step, Call, Begin, End, Return}
use Rattle.history.specs.Moments.{same_kind, is}
use Rattle.history.specs.Calls.{calls, routine_at, with_due}
use Rattle.history.proofs.Nests.{nest_matching}
use Rattle.program.specs.declared.program.Program.{Program}
use Rattle.watching.specs.Memory.{Own}
use Rattle.watching.specs.Refusals.{pending_of, routines_in, nest_of}
use Rattle.watching.specs.Calls.{depth_after, due_after, next_nesting, opened_after}
use Rattle.watching.specs.declared.Nesting.{Nesting}
use Rattle.watching.specs.declared.OpenRoutine.{OpenRoutine}
use Rattle.reels.proofs.Tests.{passed_both}

pub follow_last : (s : Nest) (es : List Event) (e : Event) → follow s (es ++ e ∷ []) ≡ next (follow s es) e
follow_last s [] e = refl
follow_last s (x ∷ es) e = follow_last (next s x) es e

due_more : (pd : Pending) (ns : List ℕ) → length ns ≤ length (with_due pd ns)
due_more calm ns = omega arith
due_more (called n) ns = omega arith
due_more (ended n) ns = omega arith

-- no more routines are open than the depth limit
pub open_within : (d : ℕ) (es : List Event) → Begins d es → length (follow start es).opened ≤ d
open_within d es b =
    let s = follow start es in
    let m = nest_matching d es b in
    let same = ap length m.0 in
    omega (arith, due_more s.pending s.opened, length-map (calls es (length es)) (routine_at es), m.1, same)

-- what is due
pending_after : (d : ℕ) (ns : List ℕ) (pd : Pending) (k : EventKind) (m : ℕ) → in_turn d ns pd k m ≡ None → pending_of (due_after k m) ≡ (onward (record { opened = ns; pending = pd }) k m).pending
pending_after d ns calm Step m q = refl
pending_after d ns (called n) Step m q = absurd (none-some _ (sym q))
pending_after d ns (ended n) Step m q = absurd (none-some _ (sym q))
pending_after d ns pd Call m q = refl
pending_after d ns pd Begin m q = refl
pending_after d ns pd End m q = refl
pending_after d ns pd Return m q = refl

outer_length : (ns : List ℕ) → pred (length ns) ≡ length (outer ns)
outer_length [] = refl
outer_length (n ∷ ns) = refl

pub depth_after_lem : (s : Nest) (e : Event) → depth_after e.kind (length s.opened) ≡ length (next s e).opened
depth_after_lem s e = at e.kind
  where
    at : (k : EventKind) → depth_after k (length s.opened) ≡ length (onward s k e.routine).opened
    at Step = refl
    at Call = refl
    at Begin = refl
    at End = outer_length s.opened
    at Return = refl

numbers : List OpenRoutine → List ℕ
numbers os = reverse (map (λ o. o.routine) os)

numbers_push : (os : List OpenRoutine) (o : OpenRoutine) → numbers (os ++ o ∷ []) ≡ o.routine ∷ numbers os
unfolding numbers
numbers_push os o = ap reverse (map_push (λ o. o.routine) os o) ∙ reverse-append (map (λ o. o.routine) os) (o.routine ∷ [])

numbers_length : (os : List OpenRoutine) (k : ℕ) → length (routines_in k os) ≡ length (take k os)
numbers_length os k = length-reverse (map (λ o. o.routine) (take k os)) ∙ length-map (take k os) (λ o. o.routine)

outermost : (os : List OpenRoutine) (k : ℕ) → k ≤ length os → routines_in (pred k) os ≡ outer (routines_in k os)
unfolding numbers
outermost os zero l = refl
outermost os (suc k) l = sym (ap outer (ap numbers (ap (λ i. take i os) {x = suc k} {y = k + 1} (omega arith) ∙ take_more os k (record { routine = 0; call = 0 }) (omega arith)) ∙ numbers_push (take k os) _))

module _ (p : Program) (n : Nesting) {V : Type 0} (o : Own V) (deep : n.depth ≡ length (routines_in n.depth o.opened)) where
  opened_after_lem : (s : Nest) → routines_in n.depth o.opened ≡ s.opened → (k : EventKind) (m : ℕ) → (same_kind Begin k ≡ true → n.depth < length o.opened) → routines_in (depth_after k n.depth) (opened_after p n o k m) ≡ (onward s k m).opened
  unfolding numbers
  opened_after_lem s q Step m l = q
  opened_after_lem s q Call m l = q
  opened_after_lem s q Begin m l = ap numbers (take-suc-set _ _ _ (l refl)) ∙ (numbers_push (take n.depth o.opened) _ ∙ ap {B = List ℕ} (λ ns. m ∷ ns) q)
  opened_after_lem s q End m l = outermost o.opened n.depth (omega (arith, numbers_length o.opened n.depth, length-take n.depth o.opened)) ∙ ap outer q
  opened_after_lem s q Return m l = q

  pub nest_after : (d : ℕ) (e : Event) → judged d (nest_of n o.opened) e ≡ None → (is Begin e ≡ true → n.depth < length o.opened) → nest_of (next_nesting n e) (opened_after p n o e.kind e.routine) ≡ next (nest_of n o.opened) e
  nest_after d e q l =
      let s = nest_of n o.opened in
      ap₂ {C = Nest} (λ x y. record { opened = x; pending = y }) (opened_after_lem s refl e.kind e.routine l) (pending_after d s.opened s.pending e.kind e.routine (passed_both (fit e) _ unfit q).1)
