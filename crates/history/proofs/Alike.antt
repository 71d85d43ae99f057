-- Event lists that are alike up to an event show the same from there.
--   Alike n es fs     the events 1 to n of the two lists are the same
use Rattle.std.proofs.Common.{◌≡◌, ℕ, zero, suc, ◌-◌, ◌≤◌, Bool, true, false, cond, not, ◌&&◌, ◌||◌, eqb, ltb, leb, List, ◌++◌, length, refl, ap, ap₂, arith}
use Rattle.std.proofs.lemmas.List.{get_or_append_left}
use Rattle.reels.specs.declared.Event.{Event}
use Rattle.reels.specs.declared.EventKind.{EventKind}
use Rattle.reels.specs.declared.EventKind.TheVariants.{Call, Begin, End, Return}
use Rattle.history.specs.Moments.{blank, numbered, event_at, is, tally, open_at, latest, call_of, hides, seen, prior}
use Rattle.history.specs.Calls.{after, calls}
use Rattle.history.proofs.Folds.{over_same}

abbrev pub Alike : ℕ → List Event → List Event → Type 0
Alike n es fs = (i : ℕ) → i ≤ n → event_at es i ≡ event_at fs i

pub alike_shorter : (es fs : List Event) {m n : ℕ} → m ≤ n → Alike n es fs → Alike m es fs
alike_shorter es fs h a i k = a i (omega arith)

pub numbered_append : {X : Type 0} (d : X) (xs ys : List X) (i : ℕ) → i ≤ length xs → numbered d (xs ++ ys) i ≡ numbered d xs i
unfolding numbered
numbered_append d xs ys zero h = refl
numbered_append d xs ys (suc i) h = get_or_append_left xs ys d i h

-- a list is alike to any that goes on from it
pub alike_append : (es fs : List Event) → Alike (length es) (es ++ fs) es
alike_append es fs = numbered_append blank es fs

pub latest_same : (P Q : ℕ → Bool) (i : ℕ) → ((c : ℕ) → c ≤ i → P c ≡ Q c) → latest P i ≡ latest Q i
unfolding latest
latest_same P Q zero h = refl
latest_same P Q (suc i) h = ap₂ (λ b m. cond b (suc i) m) (h (suc i) (omega arith)) (latest_same P Q i (λ c k. h c (omega arith)))

pub latest_le : (P : ℕ → Bool) (i : ℕ) → latest P i ≤ i
unfolding latest
latest_le P zero = omega arith
latest_le P (suc i) = at (P (suc i)) (latest_le P i)
  where
    at : (b : Bool) → latest P i ≤ i → cond b (suc i) (latest P i) ≤ suc i
    at true h = omega arith
    at false h = omega arith

pub call_of_le : (es : List Event) (i : ℕ) → call_of es (suc i) ≤ i
unfolding call_of
call_of_le es i = latest_le _ i

pub prior_le : (es : List Event) (i : ℕ) → prior es (suc i) ≤ i
unfolding prior
prior_le es i = at (is Return (event_at es (suc i)))
  where
    at : (b : Bool) → cond b (call_of es (suc i)) i ≤ i
    at true = call_of_le es i
    at false = omega arith

module _ (es fs : List Event) where
  pub tally_alike : (k : EventKind) (i : ℕ) → Alike i es fs → tally k es i ≡ tally k fs i
  unfolding tally
  tally_alike k zero a = refl
  tally_alike k (suc i) a = ap₂ (λ e m. cond (is k e) (suc m) m) (a (suc i) (omega arith)) (tally_alike k i (λ c h. a c (omega arith)))

  pub open_alike : (i : ℕ) → Alike i es fs → open_at es i ≡ open_at fs i
  unfolding open_at
  open_alike i a = ap₂ ◌-◌ (tally_alike Begin i a) (tally_alike End i a)

  pub call_of_alike : (i : ℕ) → Alike i es fs → call_of es i ≡ call_of fs i
  unfolding call_of
  call_of_alike zero a = refl
  call_of_alike (suc i) a = latest_same _ _ i (λ c h. ap₂ ◌&&◌ (ap (is Call) (a c (omega arith))) (ap₂ eqb (open_alike c (λ x k. a x (omega arith))) (open_alike (suc i) a)))

  pub hides_alike : (r j : ℕ) → Alike r es fs → hides es r j ≡ hides fs r j
  unfolding hides
  hides_alike r j a = ap₂ (λ e c. is Return e && (ltb 0 c && (ltb c j && ltb j r))) (a r (omega arith)) (call_of_alike r a)

  pub seen_alike : (j i : ℕ) → Alike i es fs → seen es j i ≡ seen fs j i
  unfolding seen
  seen_alike j i a = ap (λ b. leb j i && not b) (over_same ◌||◌ false _ _ i (λ r g h. hides_alike r j (λ x k. a x (omega arith))))

  pub prior_alike : (i : ℕ) → Alike i es fs → prior es i ≡ prior fs i
  unfolding prior
  prior_alike zero a = refl
  prior_alike (suc i) a = ap₂ (λ e c. cond (is Return e) c i) (a (suc i) (omega arith)) (call_of_alike (suc i) a)

  pub calls_alike : (i : ℕ) → Alike i es fs → calls es i ≡ calls fs i
  unfolding calls
  calls_alike zero a = refl
  calls_alike (suc i) a = ap₂ (λ e cs. after e.kind (suc i) cs) (a (suc i) (omega arith)) (calls_alike i (λ c h. a c (omega arith)))
