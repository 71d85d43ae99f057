-- A state has one kind, and how many states of a kind stand in a trace.
--   others        what a state's kind says of the tests of the other kinds
--   count k w     how many states of the kind k stand in w
use Prim.Native.Nat.{ℕ, suc, ◌+◌}
use mathlib.Core.Bool.{Bool, true, false, cond}
use mathlib.Core.List.{[], ◌∷◌, ◌++◌}
use mathlib.Core.Path.{◌≡◌, refl, sym, ap, ◌∙◌}
use native.Mathlib.Omega.{arith}
use borrow.Author.Tests.{clash}
use Rattle.reels.specs.declared.EventKind.{EventKind}
use Rattle.reels.specs.declared.EventKind.TheVariants.{Step, Call, Begin, End, Return}
use Rattle.history.specs.Moments.{is, same_kind}
use Rattle.ptcaret.specs.Traces.{State, Trace, Kind}

same : (k l : EventKind) → same_kind k l ≡ true → k ≡ l
same Step = elim [ Step ↦ λ e. refl | Call ↦ λ e. absurd (clash e) | Begin ↦ λ e. absurd (clash e) | End ↦ λ e. absurd (clash e) | Return ↦ λ e. absurd (clash e) ]
same Call = elim [ Step ↦ λ e. absurd (clash e) | Call ↦ λ e. refl | Begin ↦ λ e. absurd (clash e) | End ↦ λ e. absurd (clash e) | Return ↦ λ e. absurd (clash e) ]
same Begin = elim [ Step ↦ λ e. absurd (clash e) | Call ↦ λ e. absurd (clash e) | Begin ↦ λ e. refl | End ↦ λ e. absurd (clash e) | Return ↦ λ e. absurd (clash e) ]
same End = elim [ Step ↦ λ e. absurd (clash e) | Call ↦ λ e. absurd (clash e) | Begin ↦ λ e. absurd (clash e) | End ↦ λ e. refl | Return ↦ λ e. absurd (clash e) ]
same Return = elim [ Step ↦ λ e. absurd (clash e) | Call ↦ λ e. absurd (clash e) | Begin ↦ λ e. absurd (clash e) | End ↦ λ e. absurd (clash e) | Return ↦ λ e. refl ]

pub others : (k l : EventKind) (s : State) → Kind k s → is l s.event ≡ same_kind l k
others k l s h = ap (same_kind l) (sym (same k s.event.kind h))

-- two kinds that differ
pub unlike : (k l : EventKind) (s : State) → same_kind l k ≡ false → Kind k s → Kind l s → ⊥
unlike k l s d h i = clash (sym d ∙ (sym (others k l s h) ∙ i))

unfoldable pub count : EventKind → Trace → ℕ
count k [] = 0
count k (s ∷ w) = cond (is k s.event) (suc (count k w)) (count k w)

module _ (k : EventKind) where
  pub count_in : (s : State) (w : Trace) → is k s.event ≡ true → count k (s ∷ w) ≡ suc (count k w)
  unfolding count
  count_in s w e = ap (λ b. cond b (suc (count k w)) (count k w)) e

  pub count_out : (s : State) (w : Trace) → is k s.event ≡ false → count k (s ∷ w) ≡ count k w
  unfolding count
  count_out s w e = ap (λ b. cond b (suc (count k w)) (count k w)) e

  pub count_append : (v w : Trace) → count k (v ++ w) ≡ count k v + count k w
  unfolding count
  count_append [] w = omega arith
  count_append (s ∷ v) w = at (is k s.event) (count_append v w)
    where
      at : (b : Bool) → count k (v ++ w) ≡ count k v + count k w → cond b (suc (count k (v ++ w))) (count k (v ++ w)) ≡ cond b (suc (count k v)) (count k v) + count k w
      at true h = omega arith
      at false h = omega arith
