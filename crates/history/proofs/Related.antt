-- A relation between two kinds' values that the five operations keep is kept by looking back.
--   Agree A B R n h k       up to event n the two histories have the same events, and readings related by R
--   value_related           then so are the values of every rule
use Rattle.std.proofs.Common.{◌≡◌, ℕ, zero, suc, ◌≤◌, Bool, true, false, cond, eqb, ltb, List, get_or, sym, refl, subst, arith}
use Rattle.words.specs.declared.Operator.{Operator}
use Rattle.words.specs.declared.Operator.TheVariants.{And, Or, Implies, Since, Rsince, Not, Before, Rbefore, Once, Ronce, Always, Ralways, Rise, Fall, True, False, Step, Call, Begin, End, Return, Predicate, Routine}
use Rattle.grammar.specs.Grammar.{Tree, leaf, one, two}
use Rattle.kinds.specs.Algebra.{Algebra}
use Rattle.reels.specs.declared.Event.{Event}
use Rattle.history.specs.Moments.{Moment, events, event_at, reading_at, over, prior}
use Rattle.history.specs.Theorems.{Kept}
use Rattle.history.specs.Value.{Sense, of_event, of_one, of_two, or_to, and_to, and_between, earlier, before, truth, rbefore, if_seen, rsince, sense, on_none, on_one, on_two, value}
use Rattle.history.proofs.Alike.{Alike, alike_shorter, seen_alike, prior_alike, prior_le}

module _ (A B : Algebra) (R : A.Val → B.Val → Type 0) where
  -- readings that are related number by number
  abbrev pub Reads : List A.Val → List B.Val → Type 0
  Reads r s = (n : ℕ) → R (get_or r n A.false) (get_or s n B.false)

  pub record Agree (n : ℕ) (h : List (Moment A.Val)) (k : List (Moment B.Val)) : Type 0 where
    pub same : Alike n (events h) (events k)
    pub reads : (i : ℕ) → i ≤ n → Reads (reading_at h i) (reading_at k i)

  -- values that are related at every event up to n
  abbrev pub UpTo : ℕ → (ℕ → A.Val) → (ℕ → B.Val) → Type 0
  UpTo n F G = (i : ℕ) → i ≤ n → R (F i) (G i)

  data Senses (n : ℕ) : Sense A.Val → Sense B.Val → Type 0 where
    on_event : {f : ℕ → Event → List A.Val → A.Val} {g : ℕ → Event → List B.Val → B.Val} → ((m : ℕ) (e : Event) (r : List A.Val) (s : List B.Val) → Reads r s → R (f m e r) (g m e s)) → Senses n (of_event f) (of_event g)
    on_one_lem : {f : (ℕ → A.Val) → ℕ → A.Val} {g : (ℕ → B.Val) → ℕ → B.Val} → ((F : ℕ → A.Val) (G : ℕ → B.Val) → UpTo n F G → UpTo n (f F) (g G)) → Senses n (of_one f) (of_one g)
    on_two_lem : {f : (ℕ → A.Val) → (ℕ → A.Val) → ℕ → A.Val} {g : (ℕ → B.Val) → (ℕ → B.Val) → ℕ → B.Val} → ((F F' : ℕ → A.Val) (G G' : ℕ → B.Val) → UpTo n F G → UpTo n F' G' → UpTo n (f F F') (g G G')) → Senses n (of_two f) (of_two g)

module _ (A B : Algebra) (R : A.Val → B.Val → Type 0) (K : Kept A B R) where
  cond_related : {b c : Bool} {x u : A.Val} {y v : B.Val} → b ≡ c → R x y → R u v → R (cond b x u) (cond c y v)
  cond_related {b} {c} {x} {u} {y} {v} e p q = subst (λ d. R (cond b x u) (cond d y v)) e (at b)
    where
      at : (b : Bool) → R (cond b x u) (cond b y v)
      at true = p
      at false = q

  over_related : {f : A.Val → A.Val → A.Val} {g : B.Val → B.Val → B.Val} {x : A.Val} {y : B.Val} → ((a b : A.Val) (c d : B.Val) → R a c → R b d → R (f a b) (g c d)) → R x y → (F : ℕ → A.Val) (G : ℕ → B.Val) (i : ℕ) → UpTo A B R i F G → R (over f x F i) (over g y G i)
  unfolding over
  over_related op d F G zero h = d
  over_related op d F G (suc i) h = op _ _ _ _ (h (suc i) (omega arith)) (over_related op d F G i (λ j l. h j (omega arith)))

  or_to_related : (F : ℕ → A.Val) (G : ℕ → B.Val) (i : ℕ) → UpTo A B R i F G → R (or_to A F i) (or_to B G i)
  or_to_related = over_related (λ a b c d h k. K.or h k) K.false

  and_to_related : (F : ℕ → A.Val) (G : ℕ → B.Val) (i : ℕ) → UpTo A B R i F G → R (and_to A F i) (and_to B G i)
  and_to_related = over_related (λ a b c d h k. K.and h k) K.true

  between_related : (F : ℕ → A.Val) (G : ℕ → B.Val) (j i : ℕ) → UpTo A B R i F G → R (and_between A F j i) (and_between B G j i)
  between_related F G j i h = and_to_related _ _ i (λ k l. cond_related {b = ltb j k} refl (h k l) K.true)

  earlier_related : (F : ℕ → A.Val) (G : ℕ → B.Val) (p : ℕ) → R (F p) (G p) → R (earlier A F p) (earlier B G p)
  unfolding earlier
  earlier_related F G zero h = K.false
  earlier_related F G (suc p) h = h

  before_related : (F : ℕ → A.Val) (G : ℕ → B.Val) (i : ℕ) → UpTo A B R i F G → R (before A F i) (before B G i)
  unfolding before
  before_related F G zero h = K.false
  before_related F G (suc i) h = earlier_related F G i (h i (omega arith))

  truth_related : (b : Bool) → R (truth A b) (truth B b)
  truth_related true = K.true
  truth_related false = K.false

  module _ (n : ℕ) (es fs : List Event) (a : Alike n es fs) where
    seen_related : {x : A.Val} {y : B.Val} (F : ℕ → A.Val) (G : ℕ → B.Val) (i : ℕ) → i ≤ n → R x y → UpTo A B R i F G → UpTo A B R i (if_seen A es x F i) (if_seen B fs y G i)
    seen_related F G i l d h j k = cond_related (seen_alike es fs j i (alike_shorter es fs l a)) (h j k) d

    shorter : {m : ℕ} {F : ℕ → A.Val} {G : ℕ → B.Val} → m ≤ n → UpTo A B R n F G → UpTo A B R m F G
    shorter l h i k = h i (omega arith)

    prior_within : (i : ℕ) → i ≤ n → prior fs i ≤ n
    unfolding prior
    prior_within zero l = l
    prior_within (suc i) l = omega (arith, prior_le fs i)

    rbefore_related : (F : ℕ → A.Val) (G : ℕ → B.Val) → UpTo A B R n F G → UpTo A B R n (rbefore A es F) (rbefore B fs G)
    rbefore_related F G h i l = subst (λ p. R (earlier A F p) (earlier B G (prior fs i))) (sym (prior_alike es fs i (alike_shorter es fs l a))) (earlier_related F G (prior fs i) (h (prior fs i) (prior_within i l)))

    since_related : (F F' : ℕ → A.Val) (G G' : ℕ → B.Val) (i : ℕ) → UpTo A B R i F G → UpTo A B R i F' G' → UpTo A B R i (λ j. A.and (F' j) (and_between A F j i)) (λ j. B.and (G' j) (and_between B G j i))
    since_related F F' G G' i h h' j l = K.and (h' j l) (between_related F G j i h)

    rsince_related : (F F' : ℕ → A.Val) (G G' : ℕ → B.Val) → UpTo A B R n F G → UpTo A B R n F' G' → UpTo A B R n (rsince A es F F') (rsince B fs G G')
    rsince_related F F' G G' h h' i l =
        let f : UpTo A B R i (if_seen A es A.true F i) (if_seen B fs B.true G i) = seen_related F G i l K.true (shorter l h) in
        or_to_related _ _ i (seen_related _ _ i l K.false (since_related _ F' _ G' i f (shorter l h')))

    sense_related : (o : Operator) → Senses A B R n (sense A es o) (sense B fs o)
    sense_related True = on_event (λ m e r s q. K.true)
    sense_related False = on_event (λ m e r s q. K.false)
    sense_related Step = on_event (λ m e r s q. truth_related _)
    sense_related Call = on_event (λ m e r s q. truth_related _)
    sense_related Begin = on_event (λ m e r s q. truth_related _)
    sense_related End = on_event (λ m e r s q. truth_related _)
    sense_related Return = on_event (λ m e r s q. truth_related _)
    sense_related Predicate = on_event (λ m e r s q. q m)
    sense_related Routine = on_event (λ m e r s q. truth_related (eqb e.routine m))
    sense_related Not = on_one_lem (λ F G h i l. K.not (h i l))
    sense_related Before = on_one_lem (λ F G h i l. before_related F G i (shorter l h))
    sense_related Rbefore = on_one_lem rbefore_related
    sense_related Once = on_one_lem (λ F G h i l. or_to_related F G i (shorter l h))
    sense_related Ronce = on_one_lem (λ F G h i l. or_to_related _ _ i (seen_related F G i l K.false (shorter l h)))
    sense_related Always = on_one_lem (λ F G h i l. and_to_related F G i (shorter l h))
    sense_related Ralways = on_one_lem (λ F G h i l. and_to_related _ _ i (seen_related F G i l K.true (shorter l h)))
    sense_related Rise = on_one_lem (λ F G h i l. K.and (h i l) (K.not (before_related F G i (shorter l h))))
    sense_related Fall = on_one_lem (λ F G h i l. K.and (K.not (h i l)) (before_related F G i (shorter l h)))
    sense_related And = on_two_lem (λ F F' G G' h h' i l. K.and (h i l) (h' i l))
    sense_related Or = on_two_lem (λ F F' G G' h h' i l. K.or (h i l) (h' i l))
    sense_related Implies = on_two_lem (λ F F' G G' h h' i l. K.or (K.not (h i l)) (h' i l))
    sense_related Since = on_two_lem (λ F F' G G' h h' i l. or_to_related _ _ i (since_related F F' G G' i (shorter l h) (shorter l h')))
    sense_related Rsince = on_two_lem rsince_related

  none_related : {n : ℕ} {f : Sense A.Val} {g : Sense B.Val} → Senses A B R n f g → (m : ℕ) (e : Event) (r : List A.Val) (s : List B.Val) → Reads A B R r s → R (on_none A f m e r) (on_none B g m e s)
  none_related (on_event q) m e r s h = q m e r s h
  none_related (on_one_lem q) m e r s h = K.false
  none_related (on_two_lem q) m e r s h = K.false

  one_related : {n : ℕ} {f : Sense A.Val} {g : Sense B.Val} → Senses A B R n f g → (F : ℕ → A.Val) (G : ℕ → B.Val) → UpTo A B R n F G → UpTo A B R n (on_one A f F) (on_one B g G)
  one_related (on_event q) F G h i l = K.false
  one_related (on_one_lem q) F G h i l = q F G h i l
  one_related (on_two_lem q) F G h i l = K.false

  two_related : {n : ℕ} {f : Sense A.Val} {g : Sense B.Val} → Senses A B R n f g → (F F' : ℕ → A.Val) (G G' : ℕ → B.Val) → UpTo A B R n F G → UpTo A B R n F' G' → UpTo A B R n (on_two A f F F') (on_two B g G G')
  two_related (on_event q) F F' G G' h h' i l = K.false
  two_related (on_one_lem q) F F' G G' h h' i l = K.false
  two_related (on_two_lem q) F F' G G' h h' i l = q F F' G G' h h' i l

  pub value_related : (n : ℕ) (h : List (Moment A.Val)) (k : List (Moment B.Val)) → Agree A B R n h k → (t : Tree) → UpTo A B R n (value A t h) (value B t k)
  unfolding value
  value_related n h k g (leaf w) i l = subst (λ e. R (on_none A (sense A (events h) w.operator) w.number e (reading_at h i)) (on_none B (sense B (events k) w.operator) w.number (event_at (events k) i) (reading_at k i))) (sym (g.same i l)) (none_related (sense_related n (events h) (events k) g.same w.operator) w.number (event_at (events k) i) (reading_at h i) (reading_at k i) (g.reads i l))
  value_related n h k g (one w t) i l = one_related (sense_related n (events h) (events k) g.same w.operator) _ _ (value_related n h k g t) i l
  value_related n h k g (two w t u) i l = two_related (sense_related n (events h) (events k) g.same w.operator) _ _ _ _ (value_related n h k g t) (value_related n h k g u) i l
