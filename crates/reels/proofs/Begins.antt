-- The events that a nest takes are those that begin a reel, and its refusals follow.
use Rattle.std.proofs.Common.{◌≡◌, ℕ, suc, ◌+◌, ◌<◌, Bool, true, false, cond, eqb, ltb, List, [], ◌∷◌, ◌++◌, length, Some, None, Option, sym, refl, ap, ◌∙◌, subst, arith, lt-ltb}
use Rattle.std.proofs.lemmas.Option.{none-some}
use Rattle.reels.specs.Reels.{fit, Begins}
use Rattle.reels.specs.Nesting.{Pending, calm, called, ended, Nest, start, Fault, unfit, after_call, after_end, stray, not_innermost, too_deep, unless, is_begin, is_return, innermost, in_turn, judged, next, Takes, follow, TakenBegins, RefusedExactly, TooDeepExactly}
use Rattle.reels.specs.declared.Event.{Event}
use Rattle.reels.specs.declared.EventKind.{EventKind}
use Rattle.reels.specs.declared.EventKind.TheVariants.{Step, Call, Begin, End, Return}
use Rattle.reels.proofs.Depth.{begins_deeper}
use Rattle.reels.proofs.Taken.{begins_taken}
use Rattle.reels.proofs.Rests.{taken_begins}

pub taken_exactly : TakenBegins
taken_exactly d es = (taken_begins d es, begins_taken d es)

-- one event more is taken where the nest takes it
pub takes_last : (d : ℕ) (s : Nest) (es : List Event) (e : Event) → Takes d s es → judged d (follow s es) e ≡ None → Takes d s (es ++ e ∷ [])
takes_last d s [] e t j = (j, tt)
takes_last d s (x ∷ es) e t j = (t.0, takes_last d (next s x) es e t.1 j)

pub last_taken : (d : ℕ) (s : Nest) (es : List Event) (e : Event) → Takes d s (es ++ e ∷ []) → judged d (follow s es) e ≡ None
last_taken d s [] e t = t.0
last_taken d s (x ∷ es) e t = last_taken d (next s x) es e t.1

pub event_begins : (d : ℕ) (es : List Event) (e : Event) → Begins d es → judged d (follow start es) e ≡ None → Begins d (es ++ e ∷ [])
event_begins d es e b j = taken_begins d (es ++ e ∷ []) (takes_last d start es e (begins_taken d es b) j)

pub begins_event : (d : ℕ) (es : List Event) (e : Event) → Begins d (es ++ e ∷ []) → judged d (follow start es) e ≡ None
begins_event d es e b = last_taken d start es e (begins_taken d (es ++ e ∷ []) b)

refusal : (o : Option Fault) → (o ≡ None → ⊥) → (f : Fault) × (o ≡ Some f)
refusal None n = absurd (n refl)
refusal (Some f) n = (f, refl)

pub refused_exactly : RefusedExactly
refused_exactly d es e b = (
  (λ r c. none-some _ (sym (sym r.1 ∙ begins_event d es e c))),
  (λ n. refusal (judged d (follow start es) e) (λ j. n (event_begins d es e b j))),
)

abbrev IsDeep : Option Fault → Type 0
IsDeep None = ⊥
IsDeep (Some unfit) = ⊥
IsDeep (Some after_call) = ⊥
IsDeep (Some after_end) = ⊥
IsDeep (Some stray) = ⊥
IsDeep (Some not_innermost) = ⊥
IsDeep (Some too_deep) = Unit {0}

shallow : (b : Bool) (f : Fault) → (IsDeep (Some f) → ⊥) → IsDeep (unless b f) → ⊥
shallow true f n i = i
shallow false f n i = n i

deep_unless : (b : Bool) → (unless b too_deep ≡ None → ⊥) → unless b too_deep ≡ Some too_deep
deep_unless true n = absurd (n refl)
deep_unless false n = refl

-- two limits d and k differ in calls alone
module _ (d k : ℕ) (ns : List ℕ) where
  -- what is too deep under the one is taken under the other, where that leaves room
  turn_deep : (p : Pending) (kind : EventKind) (m : ℕ) → length ns < k → IsDeep (in_turn d ns p kind m) → in_turn k ns p kind m ≡ None
  turn_deep calm Step m h i = absurd i
  turn_deep calm Call m h i = ap (λ b. unless b too_deep) (lt-ltb (length ns) k h)
  turn_deep calm Begin m h i = absurd i
  turn_deep calm End m h i = absurd (shallow (innermost ns m) not_innermost (λ x. x) i)
  turn_deep calm Return m h i = absurd i
  turn_deep (called n) kind m h i = absurd (shallow (cond (is_begin kind) (eqb n m) false) after_call (λ x. x) i)
  turn_deep (ended n) kind m h i = absurd (shallow (cond (is_return kind) (eqb n m) false) after_end (λ x. x) i)

  -- what is taken under the other and not under the one is too deep
  turn_only : (p : Pending) (kind : EventKind) (m : ℕ) → in_turn k ns p kind m ≡ None → (in_turn d ns p kind m ≡ None → ⊥) → in_turn d ns p kind m ≡ Some too_deep
  turn_only calm Step m j n = absurd (n j)
  turn_only calm Call m j n = deep_unless (ltb (length ns) d) n
  turn_only calm Begin m j n = absurd (n j)
  turn_only calm End m j n = absurd (n j)
  turn_only calm Return m j n = absurd (n j)
  turn_only (called i) kind m j n = absurd (n j)
  turn_only (ended i) kind m j n = absurd (n j)

-- the same for events of any number, fit or not
fit_deep : (b : Bool) (o q : Option Fault) → (IsDeep o → q ≡ None) → IsDeep (cond b o (Some unfit)) → cond b q (Some unfit) ≡ None
fit_deep true o q h i = h i
fit_deep false o q h i = absurd i

fit_only : (b : Bool) (o q : Option Fault) → (q ≡ None → (o ≡ None → ⊥) → o ≡ Some too_deep) → cond b q (Some unfit) ≡ None → (cond b o (Some unfit) ≡ None → ⊥) → cond b o (Some unfit) ≡ Some too_deep
fit_only true o q h j n = h j n
fit_only false o q h j n = absurd (n j)

module _ (d k : ℕ) (s : Nest) (e : Event) where
  turn : ℕ → Option Fault
  turn l = in_turn l s.opened s.pending e.kind e.routine

  judged_deep : length s.opened < k → judged d s e ≡ Some too_deep → judged k s e ≡ None
  unfolding turn
  judged_deep h j = fit_deep (fit e) (turn d) (turn k) (turn_deep d k s.opened s.pending e.kind e.routine h) (subst IsDeep (sym j) tt)

  judged_only : judged k s e ≡ None → (judged d s e ≡ None → ⊥) → judged d s e ≡ Some too_deep
  unfolding turn
  judged_only = fit_only (fit e) (turn d) (turn k) (turn_only d k s.opened s.pending e.kind e.routine)

pub too_deep_exactly : TooDeepExactly
too_deep_exactly d es e b =
    let s = follow start es in
    let k = suc (d + length s.opened) in (
      (λ j. (
        (refused_exactly d es e b).0 (too_deep, j),
        (k, event_begins k es e (begins_deeper es (omega arith) b) (judged_deep d k s e (omega arith) j)),
      )),
      (λ r. judged_only d r.1.0 s e (begins_event r.1.0 es e r.1.1) (λ j. r.0 (event_begins d es e b j))),
    )
