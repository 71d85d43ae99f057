-- Formulas and values that agree along a history, and what the logic's operators keep of it.
--   Agrees h f F       the first n + 1 states of h satisfy f exactly where F is true at event n + 1
--   Steps              a way of cutting a trace back, and the event where it leads
use Prim.Native.Nat.{ℕ, zero, suc, ◌≤◌, ◌<◌}
use mathlib.Core.Bool.{Bool, true, false, ◌&&◌, ◌||◌, not-not}
use mathlib.Core.Bool as B
use mathlib.Core.List.{[]}
use mathlib.Core.Path.{◌≡◌, refl, sym, ap, ap₂, subst, ◌∙◌}
use mathlib.Core.Logic.{◌↔◌}
use native.Mathlib.Omega.{arith}
use borrow.Author.Tests.{clash}
use lib.ListN.{length, take}
use Rattle.kinds.specs.Two.{two as two_valued}
use Rattle.history.specs.Value.{earlier}
use Rattle.ptcaret.specs.Traces.{Trace, Prefix}
use Rattle.ptcaret.specs.Satisfaction.{Formula, truth, not, and, previously, Since, now, still, falsehood, or, implies, once, always}
use Rattle.ptcaret.proofs.Nested.{no_more}
use Rattle.ptcaret.proofs.Cuts.{state, first_more, last_same}

pub record Agrees (h : Trace) (f : Formula) (F : ℕ → Bool) : Type 0 where
  pub at : (n : ℕ) → n < length h → f (take (suc n) h) ↔ (F (suc n) ≡ true)

module _ {h : Trace} where
  pub agrees_same : {f : Formula} {F G : ℕ → Bool} → ((n : ℕ) → F (suc n) ≡ G (suc n)) → Agrees h f F → Agrees h f G
  agrees_same e a = record { at = λ n l. ((λ x. sym (e n) ∙ (a.at n l).0 x), (λ x. (a.at n l).1 (e n ∙ x))) }

  pub truth_agrees : Agrees h truth (λ i. true)
  truth_agrees = record { at = λ n l. ((λ x. refl), (λ x. tt)) }

  pub falsehood_agrees : Agrees h falsehood (λ i. false)
  falsehood_agrees = record { at = λ n l. ((λ x. absurd (x tt)), (λ x. absurd (clash x))) }

  pub not_agrees : {f : Formula} {F : ℕ → Bool} → Agrees h f F → Agrees h (not f) (λ i. B.not (F i))
  not_agrees {f} {F} a = record { at = λ n l. at n (F (suc n)) (a.at n l) }
    where
      at : (n : ℕ) (b : Bool) → f (take (suc n) h) ↔ (b ≡ true) → (f (take (suc n) h) → ⊥) ↔ (B.not b ≡ true)
      at n true i = ((λ x. absurd (x (i.1 refl))), (λ x. absurd (clash x)))
      at n false i = ((λ x. refl), (λ x y. clash (i.0 y)))

  pub and_agrees : {f g : Formula} {F G : ℕ → Bool} → Agrees h f F → Agrees h g G → Agrees h (and f g) (λ i. F i && G i)
  and_agrees {f} {g} {F} {G} a b = record { at = λ n l. at n (F (suc n)) (G (suc n)) (a.at n l) (b.at n l) }
    where
      at : (n : ℕ) (x y : Bool) → f (take (suc n) h) ↔ (x ≡ true) → g (take (suc n) h) ↔ (y ≡ true) → and f g (take (suc n) h) ↔ ((x && y) ≡ true)
      at n true y i j = ((λ q. j.0 q.1), (λ q. (i.1 refl, j.1 q)))
      at n false y i j = ((λ q. i.0 q.0), (λ q. absurd (clash q)))

  -- or is derived from not and and, and so is implies
  pub or_agrees : {f g : Formula} {F G : ℕ → Bool} → Agrees h f F → Agrees h g G → Agrees h (or f g) (λ i. F i || G i)
  or_agrees {F = F} {G = G} a b = agrees_same (λ n. same (F (suc n)) (G (suc n))) (not_agrees (and_agrees (not_agrees a) (not_agrees b)))
    where
      same : (x y : Bool) → B.not (B.not x && B.not y) ≡ (x || y)
      same true y = refl
      same false y = not-not y

  pub implies_agrees : {f g : Formula} {F G : ℕ → Bool} → Agrees h f F → Agrees h g G → Agrees h (implies f g) (λ i. B.not (F i) || G i)
  implies_agrees {F = F} {G = G} a b = agrees_same (λ n. same (F (suc n)) (G (suc n))) (not_agrees (and_agrees a (not_agrees b)))
    where
      same : (x y : Bool) → B.not (x && B.not y) ≡ (B.not x || y)
      same true y = not-not y
      same false y = refl

pub record Steps (h : Trace) (Back : Trace → Trace → Type 0) (p : ℕ → ℕ) : Type 0 where
  pub only : {w v : Trace} (n : ℕ) → n < length h → Back w v → w ≡ take (suc n) h → v ≡ take (p (suc n)) h
  pub leads : (n : ℕ) → n < length h → Back (take (suc n) h) (take (p (suc n)) h)
  pub less : (n : ℕ) → p (suc n) ≤ n
  pub stops : {v : Trace} → Back [] v → ⊥

-- the event before, where there is one
abbrev pub one_less : ℕ → ℕ
one_less zero = zero
one_less (suc n) = n

pub prefix_steps : (h : Trace) → Steps h Prefix one_less
prefix_steps h = record {
  only = λ {w} {v} n l b e. (last_same v (take n h) (sym b.1 ∙ (e ∙ first_more h n l))).0;
  leads = λ n l. (state h n, first_more h n l);
  less = λ n. omega arith;
  stops = λ {v} b. no_more v b.0 [] b.1;
}

module _ {h : Trace} {Back : Trace → Trace → Type 0} {p : ℕ → ℕ} (S : Steps h Back p) where
  pub previously_agrees : {f : Formula} {F : ℕ → Bool} → Agrees h f F → Agrees h (previously Back f) (λ i. earlier two_valued F (p i))
  unfolding earlier
  previously_agrees {f} {F} a = record { at = λ n l. ((λ x. ahead n l (p (suc n)) refl x), (λ x. back n l (p (suc n)) refl x)) }
    where
      ahead : (n : ℕ) → n < length h → (m : ℕ) → p (suc n) ≡ m → previously Back f (take (suc n) h) → earlier two_valued F m ≡ true
      ahead n l zero e x = absurd (no_more x.0 x.1 [] (sym (S.only n l x.2 refl ∙ ap (λ i. take i h) e)))
      ahead n l (suc m) e x =
          let less = S.less n in
          (a.at m (omega arith)).0 (subst f (S.only n l x.2 refl ∙ ap (λ i. take i h) e) x.3)

      back : (n : ℕ) → n < length h → (m : ℕ) → p (suc n) ≡ m → earlier two_valued F m ≡ true → previously Back f (take (suc n) h)
      back n l zero e x = absurd (clash x)
      back n l (suc m) e x =
          let less = S.less n in
          let room : m < length h = omega arith in
          let split = first_more h m room in
          (take m h, state h m, subst (Back (take (suc n) h)) (ap (λ i. take i h) e ∙ split) (S.leads n l), subst f split ((a.at m room).1 x))

  -- a value that goes on by the clause of since
  module _ {f g : Formula} {F G : ℕ → Bool} (V : ℕ → Bool) (a : Agrees h f F) (b : Agrees h g G) (start : V 0 ≡ false) (on : (n : ℕ) → V (suc n) ≡ (G (suc n) || (F (suc n) && V (p (suc n))))) where
    ahead : {w : Trace} → Since Back f g w → (i : ℕ) → i ≤ length h → w ≡ take i h → V i ≡ true
    ahead (now v s e x) zero l q = absurd (no_more v s [] (sym q ∙ e))
    ahead (now v s e x) (suc n) l q = on n ∙ ap (λ m. m || (F (suc n) && V (p (suc n)))) ((b.at n l).0 (subst g q x))
    ahead (still v r x s) zero l q = absurd (S.stops (subst (λ w. Back w v) q r))
    ahead (still v r x s) (suc n) l q =
        let less = S.less n in
        let i = ahead s (p (suc n)) (omega arith) (S.only n l r q) in
        on n ∙ (ap₂ (λ y z. G (suc n) || (y && z)) ((a.at n l).0 (subst f q x)) i ∙ either (G (suc n)))
      where
        either : (m : Bool) → (m || true) ≡ true
        either true = refl
        either false = refl

    back : (k i : ℕ) → i ≤ k → i ≤ length h → V i ≡ true → Since Back f g (take i h)
    back k zero j l x = absurd (clash (sym start ∙ x))
    back zero (suc n) j l x = absurd (omega arith)
    back (suc k) (suc n) j l x = here (G (suc n)) (F (suc n)) refl refl (sym (on n) ∙ x) (λ y. let less = S.less n in back k (p (suc n)) (omega arith) (omega arith) y)
      where
        here : (y z : Bool) → G (suc n) ≡ y → F (suc n) ≡ z → (y || (z && V (p (suc n)))) ≡ true → (V (p (suc n)) ≡ true → Since Back f g (take (p (suc n)) h)) → Since Back f g (take (suc n) h)
        here true z d e q r = now (take n h) (state h n) (first_more h n l) ((b.at n l).1 d)
        here false true d e q r = still (take (p (suc n)) h) (S.leads n l) ((a.at n l).1 e) (r q)
        here false false d e q r = absurd (clash q)

    pub since_agrees : Agrees h (Since Back f g) V
    since_agrees = record { at = λ n l. ((λ x. ahead x (suc n) l refl), (λ x. back (suc n) (suc n) (omega arith) l x)) }

  -- once is derived from since, and always from once and not
  module _ {f : Formula} {F : ℕ → Bool} (V : ℕ → Bool) (a : Agrees h f F) where
    pub once_agrees : V 0 ≡ false → ((n : ℕ) → V (suc n) ≡ (F (suc n) || V (p (suc n)))) → Agrees h (once Back f) V
    once_agrees start on = since_agrees V truth_agrees a start on

    pub always_agrees : V 0 ≡ true → ((n : ℕ) → V (suc n) ≡ (F (suc n) && V (p (suc n)))) → Agrees h (always Back f) V
    always_agrees start on = agrees_same (λ n. not-not (V (suc n))) (not_agrees (since_agrees (λ i. B.not (V i)) truth_agrees (not_agrees a) (ap B.not start) (λ n. ap B.not (on n) ∙ same (F (suc n)) (V (p (suc n))))))
      where
        same : (x y : Bool) → B.not (x && y) ≡ (B.not x || B.not y)
        same true y = refl
        same false y = refl
