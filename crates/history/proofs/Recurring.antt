-- What an event adds to looking back: the events in view from i are i itself and those in view from p.
--   View sees n p   this, for i the event after n
--   only, since_in  what is in view, and `since` over it
use Rattle.std.proofs.Common.{◌≡◌, ℕ, suc, ◌<◌, ◌≤◌, Bool, true, false, cond, ltb, sym, refl, ap, ◌∙◌, ap₂, arith, le-ltb, lt-ltb}
use Rattle.kinds.specs.Algebra.{Algebra, Laws}
use Rattle.history.specs.Moments.{over}
use Rattle.history.specs.Value.{or_to, and_between}
use Rattle.history.proofs.Folds.{over_same, over_cut, over_distributes}

pub record View (sees : ℕ → ℕ → Bool) (n p : ℕ) : Type 0 where
  pub within : p ≤ n
  pub itself : sees (suc n) (suc n) ≡ true
  pub back : (j : ℕ) → 1 ≤ j → j ≤ n → sees j (suc n) ≡ sees j p
  pub past : (j : ℕ) → p < j → j ≤ n → sees j p ≡ false

-- F at what is in view from i, else d
abbrev pub only : {V : Type 0} → (ℕ → ℕ → Bool) → V → (ℕ → V) → ℕ → ℕ → V
only sees d F i j = cond (sees j i) (F j) d

abbrev pub since_in : (A : Algebra) → (ℕ → ℕ → Bool) → (ℕ → A.Val) → (ℕ → A.Val) → ℕ → A.Val
since_in A sees F G i = or_to A (only sees A.false (λ j. A.and (G j) (and_between A (only sees A.true F i) j i)) i) i

module _ (sees : ℕ → ℕ → Bool) (n p : ℕ) (v : View sees n p) where
  pub over_step : {V : Type 0} (op : V → V → V) (none : V) → ((x : V) → op none x ≡ x) → (F : ℕ → V) → over op none (only sees none F (suc n)) (suc n) ≡ op (F (suc n)) (over op none (only sees none F p) p)
  unfolding over
  over_step op none unit F =
      let own : only sees none F (suc n) (suc n) ≡ F (suc n) = ap (λ b. cond b (F (suc n)) none) v.itself in
      let rest : over op none (only sees none F (suc n)) n ≡ over op none (only sees none F p) n = over_same op none _ _ n (λ j l k. ap (λ b. cond b (F j) none) (v.back j l k)) in
      let short : over op none (only sees none F p) n ≡ over op none (only sees none F p) p = over_cut op none unit _ p n v.within (λ j l k. ap (λ b. cond b (F j) none) (v.past j l k)) in
      ap₂ op own (rest ∙ short)

  module _ (A : Algebra) (L : Laws A) where
    -- the and after j gains the newest event
    between_step : (F : ℕ → A.Val) (j : ℕ) → j ≤ p → and_between A (only sees A.true F (suc n)) j (suc n) ≡ A.and (F (suc n)) (and_between A (only sees A.true F p) j p)
    unfolding over
    between_step F j l =
        let within : p ≤ n = v.within in
        let own : cond (ltb j (suc n)) (only sees A.true F (suc n) (suc n)) A.true ≡ F (suc n) = ap₂ (λ b c. cond b (cond c (F (suc n)) A.true) A.true) (lt-ltb j (suc n) (omega arith)) v.itself in
        let rest : and_between A (only sees A.true F (suc n)) j n ≡ and_between A (only sees A.true F p) j n = over_same A.and A.true _ _ n (λ k a b. ap (λ c. cond (ltb j k) (cond c (F k) A.true) A.true) (v.back k a b)) in
        let short : and_between A (only sees A.true F p) j n ≡ and_between A (only sees A.true F p) j p = over_cut A.and A.true L.and_true _ p n within (λ k a b. ap₂ (λ b c. cond b (cond c (F k) A.true) A.true) (lt-ltb j k (omega arith)) (v.past k a b)) in
        ap₂ A.and own (rest ∙ short)

    -- the and over no event
    between_none : (F : ℕ → A.Val) (i : ℕ) → and_between A F i i ≡ A.true
    unfolding over
    between_none F i = over_cut A.and A.true L.and_true _ 0 i (omega arith) (λ k a b. ap (λ c. cond c (F k) A.true) (le-ltb i k b))

    and_none : (x : A.Val) → A.and x A.true ≡ x
    and_none x = L.and_comm _ _ ∙ L.and_true x

    and_never : (x : A.Val) → A.and x A.false ≡ A.false
    and_never x = L.and_comm _ _ ∙ L.and_false x

    swap : (x y z : A.Val) → A.and x (A.and y z) ≡ A.and y (A.and x z)
    swap x y z = sym (L.and_assoc x y z) ∙ (ap (λ u. A.and u z) (L.and_comm x y) ∙ L.and_assoc y x z)

    cond_and : (b : Bool) (x y : A.Val) → cond b (A.and x y) A.false ≡ A.and x (cond b y A.false)
    cond_and true x y = refl
    cond_and false x y = sym (and_never x)

    pub since_step : (F G : ℕ → A.Val) → since_in A sees F G (suc n) ≡ A.or (G (suc n)) (A.and (F (suc n)) (since_in A sees F G p))
    since_step F G =
        let x = F (suc n) in
        let T : ℕ → ℕ → A.Val = λ i j. A.and (G j) (and_between A (only sees A.true F i) j i) in
        let own : T (suc n) (suc n) ≡ G (suc n) = ap (A.and (G (suc n))) (between_none _ (suc n)) ∙ and_none (G (suc n)) in
        let each : (j : ℕ) → 1 ≤ j → j ≤ p → only sees A.false (T (suc n)) p j ≡ A.and x (only sees A.false (T p) p j) = λ j a b. ap (λ y. cond (sees j p) y A.false) (ap (A.and (G j)) (between_step F j b) ∙ swap _ _ _) ∙ cond_and (sees j p) x (T p j) in
        let rest : or_to A (only sees A.false (T (suc n)) p) p ≡ A.and x (or_to A (only sees A.false (T p) p) p) = over_same A.or A.false _ _ p each ∙ over_distributes A.or A.false (A.and x) (and_never x) (L.and_or x) _ p in
        over_step A.or A.false L.or_false (T (suc n)) ∙ ap₂ A.or own rest
