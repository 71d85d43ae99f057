-- What is seen from an event: the event itself, and what is seen from where a routine word looks back to.
use Rattle.std.proofs.Common.{◌≡◌, ℕ, zero, suc, ◌<◌, ◌≤◌, Bool, true, false, cond, not, ◌&&◌, ◌||◌, ltb, leb, List, length, get_or, drop, sym, refl, ap, ◌∙◌, subst, ap₂, arith, drop-cons, le-ltb, lt-ltb, le-leb}
use native.Mathlib.Decide.{dec_le}
use borrow.Author.Tests.{lt-leb, clash}
use Rattle.std.proofs.lemmas.List.{get_or_past}
use Rattle.reels.specs.declared.Event.{Event}
use Rattle.reels.specs.declared.EventKind.{EventKind}
use Rattle.reels.specs.declared.EventKind.TheVariants.{Step, Call, Begin, End, Return}
use Rattle.reels.specs.Reels.{Begins}
use Rattle.history.specs.Moments.{blank, numbered, event_at, same_kind, is, tally, over, some, call_of, hides, seen, prior}
use Rattle.history.specs.Calls.{calls}
use Rattle.history.specs.Theorems.{OpenCounts}
use Rattle.history.proofs.Runs.{Phase, calm, Run, begins_runs}
use Rattle.history.proofs.Stacks.{bottom, State, Returned, advance, finds}
use Rattle.history.proofs.Folds.{over_cut}
use Rattle.history.proofs.Recurring.{View}

pub record Reached (es : List Event) (n : ℕ) : Type 0 where
  pub k : ℕ
  pub ph : Phase
  pub state : State es n k ph
  pub run : Run k ph (drop n es)

pub reached : (es : List Event) → Run 0 calm es → (n : ℕ) → n ≤ length es → Reached es n
unfolding calls tally numbered
reached es r zero l = record { k = 0; ph = calm; state = record { level = refl; depth = refl; stack = bottom }; run = r }
reached es r (suc n) l =
    let at = reached es r n (omega arith) in
    let new = advance es n (get_or es n blank) (drop (suc n) es) at.k at.ph refl (subst (Run at.k at.ph) (drop-cons es n blank l) at.run) at.state in
    record { k = new.k; ph = new.ph; state = new.state; run = new.run }

pub open_counts : OpenCounts
open_counts d es b n l = omega (arith, (reached es (begins_runs d es b) n l).state.level)

pub return_kind : (k : EventKind) → same_kind Return k ≡ true → k ≡ Return
return_kind Step h = absurd (clash h)
return_kind Call h = absurd (clash h)
return_kind Begin h = absurd (clash h)
return_kind End h = absurd (clash h)
return_kind Return h = refl

pub return_within : (es : List Event) (n : ℕ) → is Return (event_at es (suc n)) ≡ true → n < length es
unfolding numbered
return_within es n q = elim (dec_le (suc n) (length es)) [ yes l ↦ l | no l ↦ absurd (clash (ap (is Return) (sym (get_or_past es n blank (omega arith))) ∙ q)) ]

-- a return finds its call on the stack
pub return_finds : (d : ℕ) (es : List Event) → Begins d es → (n : ℕ) → is Return (event_at es (suc n)) ≡ true → Returned es n
unfolding numbered
return_finds d es b n q =
    elim (dec_le (suc n) (length es)) [
      | yes l ↦
          let at = reached es (begins_runs d es b) n (omega arith) in
          finds es n (get_or es n blank) (drop (suc n) es) at.k at.ph refl (return_kind _ q) (subst (Run at.k at.ph) (drop-cons es n blank l) at.run) at.state
      | no l ↦ absurd (clash (ap (is Return) (sym (get_or_past es n blank (omega arith))) ∙ q))
    ]

and_false : (b : Bool) → (b && false) ≡ false
and_false true = refl
and_false false = refl

module _ (es : List Event) where
  -- a return hides nothing from itself on, and nothing up to its call
  hides_none : (r j : ℕ) → r ≤ j → hides es r j ≡ false
  unfolding hides
  hides_none r j l = ap (λ b. is Return (event_at es r) && (ltb 0 (call_of es r) && (ltb (call_of es r) j && b))) (le-ltb j r l) ∙ (ap (λ b. is Return (event_at es r) && (ltb 0 (call_of es r) && b)) (and_false _) ∙ (ap (λ b. is Return (event_at es r) && b) (and_false _) ∙ and_false _))

  hides_not : (r j : ℕ) → (is Return (event_at es r) ≡ true → j ≤ call_of es r) → hides es r j ≡ false
  unfolding hides
  hides_not r j h = at (is Return (event_at es r)) h
    where
      at : (b : Bool) → (b ≡ true → j ≤ call_of es r) → (b && (ltb 0 (call_of es r) && (ltb (call_of es r) j && ltb j r))) ≡ false
      at true h = ap (λ b. ltb 0 (call_of es r) && (b && ltb j r)) (le-ltb _ _ (h refl)) ∙ and_false _
      at false h = refl

  seen_cut : (j p i : ℕ) → j ≤ p → p ≤ i → ((r : ℕ) → p < r → r ≤ i → is Return (event_at es r) ≡ true → j ≤ call_of es r) → seen es j i ≡ seen es j p
  unfolding seen
  seen_cut j p i l k h = ap₂ (λ b c. b && not c) (le-leb j i (omega arith) ∙ sym (le-leb j p l)) (over_cut ◌||◌ false (λ x. refl) _ p i k (λ r a b. hides_not r j (h r a b)))

  -- what comes later is not seen
  pub seen_later : (j p : ℕ) → p < j → seen es j p ≡ false
  unfolding seen
  seen_later j p l = ap (λ b. b && not (some (λ r. hides es r j) p)) (lt-leb j p l)

  pub seen_itself : (i : ℕ) → seen es i i ≡ true
  unfolding seen over
  seen_itself i = ap₂ (λ b c. b && not c) (le-leb i i (omega arith)) (over_cut ◌||◌ false (λ x. refl) _ 0 i (omega arith) (λ r a b. hides_none r i b))

  -- what lies between a call and its return is not seen from the return
  seen_between : (n j : ℕ) → is Return (event_at es (suc n)) ≡ true → 1 ≤ call_of es (suc n) → call_of es (suc n) < j → j ≤ n → seen es j (suc n) ≡ false
  unfolding seen over hides
  seen_between n j q f a b =
      let all : hides es (suc n) j ≡ true = ap₂ ◌&&◌ q (ap₂ ◌&&◌ (lt-ltb 0 _ f) (ap₂ ◌&&◌ (lt-ltb _ j a) (lt-ltb j (suc n) (omega arith)))) in
      ap (λ c. leb j (suc n) && not (c || some (λ r. hides es r j) n)) all ∙ and_false _

  view_return : (n : ℕ) → is Return (event_at es (suc n)) ≡ true → Returned es n → View (seen es) n (call_of es (suc n))
  view_return n q f = record { within = f.cell.within; itself = seen_itself (suc n); back = λ j a b. back j a b (dec_le j (call_of es (suc n))); past = λ j a b. seen_later j _ a }
    where
      returns : (j r : ℕ) → j ≤ call_of es (suc n) → call_of es (suc n) < r → r ≤ suc n → Dec (r ≤ n) → is Return (event_at es r) ≡ true → j ≤ call_of es r
      returns j r l a b (yes k) h = omega (arith, f.cell.returns r a k h)
      returns j r l a b (no k) h =
          let e : suc n ≡ r = omega arith in
          subst (λ i. j ≤ call_of es i) e l

      back : (j : ℕ) → 1 ≤ j → j ≤ n → Dec (j ≤ call_of es (suc n)) → seen es j (suc n) ≡ seen es j (call_of es (suc n))
      back j a b (yes k) = seen_cut j _ (suc n) k (omega (arith, f.cell.within)) (λ r x y. returns j r k x y (dec_le r n))
      back j a b (no k) = seen_between n j q f.cell.first (omega arith) b ∙ sym (seen_later j _ (omega arith))

  view_before : (n : ℕ) → is Return (event_at es (suc n)) ≡ false → View (seen es) n n
  view_before n q = record { within = omega arith; itself = seen_itself (suc n); back = λ j a b. seen_cut j n (suc n) b (omega arith) (λ r x y h. absurd (last r x y h)); past = λ j a b. absurd (omega arith) }
    where
      last : (r : ℕ) → n < r → r ≤ suc n → is Return (event_at es r) ≡ true → ⊥
      last r x y h =
          let e : r ≡ suc n = omega arith in
          clash (sym q ∙ subst (λ i. is Return (event_at es i) ≡ true) e h)

pub view : (d : ℕ) (es : List Event) → Begins d es → (n : ℕ) → View (seen es) n (prior es (suc n))
unfolding prior
view d es b n = at (is Return (event_at es (suc n))) refl
  where
    at : (r : Bool) → is Return (event_at es (suc n)) ≡ r → View (seen es) n (cond r (call_of es (suc n)) n)
    at true q = view_return es n q (return_finds d es b n q)
    at false q = view_before es n q

-- every event is in the plain words' view
pub view_all : (n : ℕ) → View (λ j i. true) n n
view_all n = record { within = omega arith; itself = refl; back = λ j a b. refl; past = λ j a b. absurd (omega arith) }
