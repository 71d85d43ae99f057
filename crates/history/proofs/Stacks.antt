-- The stack of calls that are still to return, in events that begin a well-nested reel.
--   Cell es n c l     the call c lies on the stack after event n, over l other calls
--   Stack es n cs     each of the calls cs lies on the stack so, over those behind it
--   State es n k ph   the stack after event n, where k routines are open in the phase ph
use Rattle.std.proofs.Common.{◌≡◌, ℕ, zero, suc, ◌+◌, ◌<◌, ◌≤◌, Bool, true, false, cond, ◌&&◌, eqb, List, [], ◌∷◌, length, sym, refl, ap, ◌∙◌, subst, ap₂, subst₂, arith, eq-eqb, ne_eqb}
use native.Mathlib.Decide.{dec_le}
use borrow.Author.Tests.{clash}
use Rattle.reels.specs.declared.Event.{Event}
use Rattle.reels.specs.declared.EventKind.{EventKind}
use Rattle.reels.specs.declared.EventKind.TheVariants.{Step, Call, Begin, End, Return}
use Rattle.history.specs.Moments.{event_at, same_kind, is, tally, open_at, latest, call_of}
use Rattle.history.specs.Calls.{after, calls}
use Rattle.history.proofs.Runs.{Phase, calm, called, ended, Run, on_step, on_call, on_begin, on_end, on_return}

pub record Cell (es : List Event) (n c l : ℕ) : Type 0 where
  pub first : 1 ≤ c
  pub within : c ≤ n
  pub a_call : is Call (event_at es c) ≡ true
  pub level : open_at es c ≡ l
  -- calls after it have more open
  pub inner : (j : ℕ) → c < j → j ≤ n → is Call (event_at es j) ≡ true → l < open_at es j
  -- returns after it belong to calls at or after it
  pub returns : (r : ℕ) → c < r → r ≤ n → is Return (event_at es r) ≡ true → c ≤ call_of es r

abbrev pub UpTo : ℕ → List ℕ → Type 0
UpTo t [] = Unit {0}
UpTo t (c ∷ cs) = (c ≤ t) × UpTo t cs

pub data Stack (es : List Event) (n : ℕ) : List ℕ → Type 0 where
  bottom : Stack es n []
  on : {c : ℕ} {cs : List ℕ} → Cell es n c (length cs) → UpTo c cs → Stack es n cs → Stack es n (c ∷ cs)

-- all of it was called by event n
stack_upto : {es : List Event} {n : ℕ} {cs : List ℕ} (m : ℕ) → n ≤ m → Stack es n cs → UpTo m cs
stack_upto m l bottom = tt
stack_upto {n = n} m l (on {c = c} x u s) = (omega (arith, x.within), stack_upto m l s)

-- it stays as it is over an event that calls from its level, or returns to a call above it
stack_stays : {es : List Event} {n : ℕ} {cs : List ℕ} → Stack es n cs → (is Call (event_at es (suc n)) ≡ true → length cs ≤ open_at es (suc n)) → (is Return (event_at es (suc n)) ≡ true → UpTo (call_of es (suc n)) cs) → Stack es (suc n) cs
stack_stays bottom f g = bottom
stack_stays {es} {n} (on {c = c} {cs = cs} x u s) f g = on cell u (stack_stays s (λ q. omega (arith, f q)) (λ q. (g q).1))
  where
    inner : (j : ℕ) → c < j → j ≤ suc n → Dec (j ≤ n) → is Call (event_at es j) ≡ true → length cs < open_at es j
    inner j a b (yes k) q = x.inner j a k q
    inner j a b (no k) q =
        let e : suc n ≡ j = omega arith in
        subst (λ i. is Call (event_at es i) ≡ true → length cs < open_at es i) e f q

    returns : (r : ℕ) → c < r → r ≤ suc n → Dec (r ≤ n) → is Return (event_at es r) ≡ true → c ≤ call_of es r
    returns r a b (yes k) q = x.returns r a k q
    returns r a b (no k) q =
        let e : suc n ≡ r = omega arith in
        subst (λ i. is Return (event_at es i) ≡ true → c ≤ call_of es i) e (λ p. (g p).0) q

    cell : Cell es (suc n) c (length cs)
    cell = record { first = x.first; within = omega (arith, x.within); a_call = x.a_call; level = x.level; inner = λ j a b. inner j a b (dec_le j n); returns = λ r a b. returns r a b (dec_le r n) }

-- how many calls lie on the stack beside the open routines'
abbrev pub due : Phase → ℕ
due calm = 0
due called = 1
due ended = 1

pub record State (es : List Event) (n k : ℕ) (ph : Phase) : Type 0 where
  pub level : tally Begin es n ≡ tally End es n + k
  pub depth : length (calls es n) ≡ due ph + k
  pub stack : Stack es n (calls es n)

latest_is : (P : ℕ → Bool) (t i : ℕ) → 1 ≤ t → t ≤ i → P t ≡ true → ((j : ℕ) → t < j → j ≤ i → P j ≡ false) → latest P i ≡ t
unfolding latest
latest_is P t zero a b q h = omega arith
latest_is P t (suc i) a b q h =
    elim (dec_le t i) [
      | yes k ↦ ap (λ b. cond b (suc i) (latest P i)) (h (suc i) (omega arith) (omega arith)) ∙ latest_is P t i a k q (λ j m n. h j m (omega arith))
      | no k ↦
          let e : t ≡ suc i = omega arith in
          ap (λ b. cond b (suc i) (latest P i)) (subst (λ j. P j ≡ true) e q) ∙ sym e
    ]

kinds_differ : {k : EventKind} (m : EventKind) → k ≡ Return → k ≡ m → same_kind Return m ≡ false → ⊥
kinds_differ m p q d = clash (sym d ∙ ap (same_kind Return) (sym q ∙ p))

open_level : (es : List Event) (n : ℕ) {k : ℕ} → tally Begin es n ≡ tally End es n + k → open_at es n ≡ k
unfolding open_at
open_level es n e = omega arith

module _ (es : List Event) (n : ℕ) where
  tally_at : (k m : EventKind) → (event_at es (suc n)).kind ≡ m → tally k es (suc n) ≡ cond (same_kind k m) (suc (tally k es n)) (tally k es n)
  unfolding tally
  tally_at k m e = ap (λ x. cond (same_kind k x) (suc (tally k es n)) (tally k es n)) e

  calls_at : (m : EventKind) → (event_at es (suc n)).kind ≡ m → calls es (suc n) ≡ after m (suc n) (calls es n)
  unfolding calls
  calls_at m e = ap (λ x. after x (suc n) (calls es n)) e

  is_at : (k m : EventKind) → (event_at es (suc n)).kind ≡ m → is k (event_at es (suc n)) ≡ same_kind k m
  is_at k m e = ap (same_kind k) e

  -- what a return finds: its call is the innermost on the stack
  pub record Returned : Type 0 where
    pub matches : calls es n ≡ call_of es (suc n) ∷ calls es (suc n)
    pub cell : Cell es n (call_of es (suc n)) (length (calls es (suc n)))
    pub later : UpTo (call_of es (suc n)) (calls es (suc n))
    pub rest : Stack es n (calls es (suc n))

  call_of_lem : (c l : ℕ) → Cell es n c l → open_at es (suc n) ≡ l → call_of es (suc n) ≡ c
  unfolding call_of
  call_of_lem c l x o = latest_is _ c n x.first x.within (ap₂ ◌&&◌ x.a_call (eq-eqb _ _ (x.level ∙ sym o))) (λ j a b. other j a b (is Call (event_at es j)) refl)
    where
      other : (j : ℕ) → c < j → j ≤ n → (b : Bool) → is Call (event_at es j) ≡ b → (b && eqb (open_at es j) (open_at es (suc n))) ≡ false
      other j a b true q = ne_eqb _ _ (λ e. omega (arith, x.inner j a b q))
      other j a b false q = refl

  returned : (cs : List ℕ) (k : ℕ) → calls es n ≡ cs → length cs ≡ suc k → open_at es (suc n) ≡ k → (event_at es (suc n)).kind ≡ Return → Stack es n cs → Returned
  returned [] k p d o q s = absurd (omega arith)
  returned (c ∷ cs) k p d o q (on x u s) =
      let own : call_of es (suc n) ≡ c = call_of_lem c (length cs) x (omega arith) in
      let left : calls es (suc n) ≡ cs = calls_at Return q ∙ ap (after Return (suc n)) p in
      record {
        matches = p ∙ ap₂ {C = List ℕ} (λ a xs. a ∷ xs) (sym own) (sym left);
        cell = subst₂ (λ a xs. Cell es n a (length xs)) (sym own) (sym left) x;
        later = subst₂ UpTo (sym own) (sym left) u;
        rest = subst (Stack es n) (sym left) s;
      }

  -- an event that neither begins nor ends leaves as many open
  same_level : (k : ℕ) (m : EventKind) → (event_at es (suc n)).kind ≡ m → same_kind Begin m ≡ false → same_kind End m ≡ false → tally Begin es n ≡ tally End es n + k → tally Begin es (suc n) ≡ tally End es (suc n) + k
  same_level k m e b f l =
      let begun : tally Begin es (suc n) ≡ tally Begin es n = tally_at Begin m e ∙ ap (λ c. cond c (suc (tally Begin es n)) (tally Begin es n)) b in
      let done : tally End es (suc n) ≡ tally End es n = tally_at End m e ∙ ap (λ c. cond c (suc (tally End es n)) (tally End es n)) f in
      omega arith

  return_found : (k : ℕ) → (event_at es (suc n)).kind ≡ Return → State es n k ended → Returned
  return_found k m s = returned (calls es n) k refl (omega (arith, s.depth)) (open_level es (suc n) (same_level k Return m refl refl s.level)) m s.stack

  -- the state after an event of the kind m
  moved : (m : EventKind) → (event_at es (suc n)).kind ≡ m → (k : ℕ) (ph : Phase) → cond (same_kind Begin m) (suc (tally Begin es n)) (tally Begin es n) ≡ cond (same_kind End m) (suc (tally End es n)) (tally End es n) + k → length (after m (suc n) (calls es n)) ≡ due ph + k → Stack es (suc n) (after m (suc n) (calls es n)) → State es (suc n) k ph
  moved m e k ph l d s = record {
    level = tally_at Begin m e ∙ (l ∙ ap (λ x. x + k) (sym (tally_at End m e)));
    depth = ap length (calls_at m e) ∙ d;
    stack = subst (Stack es (suc n)) (sym (calls_at m e)) s;
  }

  not_so : (k m : EventKind) {X : Type 0} → (event_at es (suc n)).kind ≡ m → same_kind k m ≡ false → is k (event_at es (suc n)) ≡ true → X
  not_so k m e h q = absurd (clash (sym h ∙ (sym (is_at k m e) ∙ q)))

  quiet : (m : EventKind) → (event_at es (suc n)).kind ≡ m → same_kind Call m ≡ false → same_kind Return m ≡ false → Stack es n (calls es n) → Stack es (suc n) (calls es n)
  quiet m e a b s = stack_stays s (not_so Call m e a) (not_so Return m e b)

  pub record Next (rest : List Event) : Type 0 where
    pub k : ℕ
    pub ph : Phase
    pub state : State es (suc n) k ph
    pub run : Run k ph rest

  pub advance : (e : Event) (rest : List Event) (k : ℕ) (ph : Phase) → event_at es (suc n) ≡ e → Run k ph (e ∷ rest) → State es n k ph → Next rest
  advance e rest k ph p (on_step q r) s =
      let m : (event_at es (suc n)).kind ≡ Step = ap (λ x. x.kind) p ∙ q in
      record { k = k; ph = calm; run = r; state = moved Step m k calm s.level s.depth (quiet Step m refl refl s.stack) }
  advance e rest k ph p (on_call q r) s =
      let m : (event_at es (suc n)).kind ≡ Call = ap (λ x. x.kind) p ∙ q in
      let level : open_at es (suc n) ≡ length (calls es n) = open_level es (suc n) (same_level k Call m refl refl s.level) ∙ sym (s.depth ∙ omega arith) in
      let cell : Cell es (suc n) (suc n) (length (calls es n)) = record { first = omega arith; within = omega arith; a_call = is_at Call Call m; level = level; inner = λ j a b c. absurd (omega arith); returns = λ j a b c. absurd (omega arith) } in
      record { k = k; ph = called; run = r; state = moved Call m k called s.level (omega (arith, s.depth)) (on cell (stack_upto (suc n) (omega arith) s.stack) (stack_stays s.stack (λ c. omega (arith, level)) (not_so Return Call m refl))) }
  advance e rest k ph p (on_begin q r) s =
      let m : (event_at es (suc n)).kind ≡ Begin = ap (λ x. x.kind) p ∙ q in
      record { k = suc k; ph = calm; run = r; state = moved Begin m (suc k) calm (omega (arith, s.level)) (omega (arith, s.depth)) (quiet Begin m refl refl s.stack) }
  advance e rest k ph p (on_end {k = k'} q r) s =
      let m : (event_at es (suc n)).kind ≡ End = ap (λ x. x.kind) p ∙ q in
      record { k = k'; ph = ended; run = r; state = moved End m k' ended (omega (arith, s.level)) (omega (arith, s.depth)) (quiet End m refl refl s.stack) }
  advance e rest k ph p (on_return q r) s =
      let m : (event_at es (suc n)).kind ≡ Return = ap (λ x. x.kind) p ∙ q in
      let found = return_found k m s in
      record { k = k; ph = calm; run = r; state = record { level = same_level k Return m refl refl s.level; depth = omega (arith, s.depth, ap length found.matches); stack = stack_stays found.rest (not_so Call Return m refl) (λ c. found.later) } }

  -- a return among such events
  pub finds : (e : Event) (rest : List Event) (k : ℕ) (ph : Phase) → event_at es (suc n) ≡ e → e.kind ≡ Return → Run k ph (e ∷ rest) → State es n k ph → Returned
  finds e rest k ph p h (on_step q r) s = absurd (kinds_differ Step h q refl)
  finds e rest k ph p h (on_call q r) s = absurd (kinds_differ Call h q refl)
  finds e rest k ph p h (on_begin q r) s = absurd (kinds_differ Begin h q refl)
  finds e rest k ph p h (on_end q r) s = absurd (kinds_differ End h q refl)
  finds e rest k ph p h (on_return q r) s =
      return_found k (ap (λ x. x.kind) p ∙ q) s
