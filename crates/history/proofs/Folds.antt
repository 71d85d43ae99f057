-- Joining values over events.
--   over_same           equal values join to the same
--   over_cut            values that are neutral from an event on can be left out
--   over_distributes    an operation that distributes over the joining one
use Rattle.std.proofs.Common.{◌≡◌, ℕ, zero, suc, ◌<◌, ◌≤◌, sym, refl, ap, ◌∙◌, ap₂, arith}
use native.Mathlib.Decide.{dec_le}
use Rattle.history.specs.Moments.{over}

module _ {V : Type 0} (op : V → V → V) (none : V) where
  pub over_same : (F G : ℕ → V) (i : ℕ) → ((j : ℕ) → 1 ≤ j → j ≤ i → F j ≡ G j) → over op none F i ≡ over op none G i
  unfolding over
  over_same F G zero h = refl
  over_same F G (suc i) h = ap₂ op (h (suc i) (omega arith) (omega arith)) (over_same F G i (λ j l k. h j l (omega arith)))

  ends : (F : ℕ → V) (i p : ℕ) → i ≡ p → over op none F i ≡ over op none F p
  ends F i p e = ap (over op none F) e

  pub over_cut : ((x : V) → op none x ≡ x) → (F : ℕ → V) (p i : ℕ) → p ≤ i → ((j : ℕ) → p < j → j ≤ i → F j ≡ none) → over op none F i ≡ over op none F p
  unfolding over
  over_cut unit F p zero l h = ends F zero p (omega arith)
  over_cut unit F p (suc i) l h =
      elim (dec_le p i) [
        | yes k ↦ ap (λ x. op x (over op none F i)) (h (suc i) (omega arith) (omega arith)) ∙ (unit _ ∙ over_cut unit F p i k (λ j m n. h j m (omega arith)))
        | no k ↦ ends F (suc i) p (omega arith)
      ]

  pub over_distributes : (g : V → V) → g none ≡ none → ((x y : V) → g (op x y) ≡ op (g x) (g y)) → (F : ℕ → V) (i : ℕ) → over op none (λ j. g (F j)) i ≡ g (over op none F i)
  unfolding over
  over_distributes g z d F zero = sym z
  over_distributes g z d F (suc i) = ap (op (g (F (suc i)))) (over_distributes g z d F i) ∙ sym (d _ _)
