-- What one step makes of its operands and its cell is what its word makes of them by looking back.
--   Own         of a step: it is like its pattern but for its numbers, and its value is v where its cell holds what H says
--   Does        this, for the step and the sense of one word
use Rattle.std.proofs.Common.{◌≡◌, ℕ, suc, cond, List, sym, refl}
use Rattle.words.specs.declared.Operator.{Operator}
use Rattle.words.specs.declared.Operator.TheVariants.{And, Or, Implies, Since, Rsince, Not, Before, Rbefore, Once, Ronce, Always, Ralways, Rise, Fall, True, False, Step, Call, Begin, End, Return, Predicate, Routine}
use Rattle.kinds.specs.Algebra.{Algebra}
use Rattle.reels.specs.declared.Event.{Event}
use Rattle.history.specs.Moments.{over, prior}
use Rattle.history.specs.Value.{Sense, of_event, of_one, of_two, earlier, before, sense, on_none, on_one, on_two}
use Rattle.history.specs.Theorems.{Plain, Along}
use Rattle.evaluation.specs.declared.Step.{Step as RuleStep}
use Rattle.evaluation.specs.Plan.{Cell, none, plain, routine, cell_of, Form, from_number, from_one, from_two, form, step_of_none, step_of_one, step_of_two}
use Rattle.evaluation.specs.Steps.{left_of, keeps_operand, kept, result, fresh}

-- the two cells are alike, and the first has the number a where it is plain, b where it is routine
pub data Kin (a b : ℕ) : Cell → Cell → Type 0 where
  no_cells : Kin a b none none
  plains : {c : ℕ} → Kin a b (plain a) (plain c)
  routines : {c : ℕ} → Kin a b (routine b) (routine c)

abbrev pub IfCell : Cell → Type 0 → Type 0
IfCell none P = Unit {0}
IfCell (plain c) P = P
IfCell (routine c) P = P

module _ (A : Algebra) where
  -- what is held at the last event in a plain cell, at the event that is looked back to in a routine cell
  abbrev pub from : Cell → A.Val → A.Val → A.Val
  from none x y = A.false
  from (plain c) x y = x
  from (routine c) x y = y

  -- what a word keeps: its operand's value or its own
  abbrev pub keeping : RuleStep → (ℕ → A.Val) → (ℕ → A.Val) → ℕ → A.Val
  keeping s G W q = cond (keeps_operand s) (earlier A G q) (W q)

  module _ (e : Event) (r : List A.Val) (n p : ℕ) where
    pub record Own (s pattern : RuleStep) (a b : ℕ) (y x v : A.Val) (H : ℕ → A.Val) : Type 0 where
      pub kin : Kin a b (cell_of s) (cell_of pattern)
      pub works : result A e r s y x (from (cell_of s) (H n) (H p)) ≡ v
      pub keeps : IfCell (cell_of s) (kept s x v ≡ H (suc n))
      pub start : IfCell (cell_of s) (fresh A s ≡ H 0)

    pub data Does : Form → Sense A.Val → Type 0 where
      by_number : {f : ℕ → RuleStep} {g : ℕ → Event → List A.Val → A.Val} → ((k a b : ℕ) (y x : A.Val) (H : ℕ → A.Val) → Own (f k) (f k) a b y x (g k e r) H) → Does (from_number f) (of_event g)
      by_one : {f : ℕ → ℕ → RuleStep} {g : (ℕ → A.Val) → ℕ → A.Val} → ((a b : ℕ) (y : A.Val) (G : ℕ → A.Val) → Own (f a b) (f 0 0) a b y (G (suc n)) (g G (suc n)) (keeping (f 0 0) G (g G))) → Does (from_one f) (of_one g)
      by_two : {f : ℕ → ℕ → ℕ → RuleStep} {g : (ℕ → A.Val) → (ℕ → A.Val) → ℕ → A.Val} → ((l a b : ℕ) → left_of (f l a b) ≡ l) → ((l a b : ℕ) (F G : ℕ → A.Val) → Own (f l a b) (f 0 0 0) a b (F (suc n)) (G (suc n)) (g F G (suc n)) (keeping (f 0 0 0) G (g F G))) → Does (from_two f) (of_two g)

    -- a word with another number of operands
    misplaced : (a b : ℕ) (y x : A.Val) (H : ℕ → A.Val) → Own RuleStep.False RuleStep.False a b y x A.false H
    misplaced a b y x H = record { kin = no_cells; works = refl; keeps = tt; start = tt }

    pub none_does : {φ : Form} {σ : Sense A.Val} → Does φ σ → (k a b : ℕ) (y x : A.Val) (H : ℕ → A.Val) → Own (step_of_none φ k) (step_of_none φ k) a b y x (on_none A σ k e r) H
    none_does (by_number o) k a b y x H = o k a b y x H
    none_does (by_one o) k a b y x H = misplaced a b y x H
    none_does (by_two l o) k a b y x H = misplaced a b y x H

    pub one_does : {φ : Form} {σ : Sense A.Val} → Does φ σ → (a b : ℕ) (y : A.Val) (G : ℕ → A.Val) → Own (step_of_one φ a b) (step_of_one φ 0 0) a b y (G (suc n)) (on_one A σ G (suc n)) (keeping (step_of_one φ 0 0) G (on_one A σ G))
    one_does (by_number o) a b y G = misplaced a b y _ _
    one_does (by_one o) a b y G = o a b y G
    one_does (by_two l o) a b y G = misplaced a b y _ _

    -- y is the value at the number that the step has for its left operand
    pub two_does : {φ : Form} {σ : Sense A.Val} → Does φ σ → (l a b : ℕ) (at : ℕ → A.Val) (F G : ℕ → A.Val) → at l ≡ F (suc n) → Own (step_of_two φ l a b) (step_of_two φ 0 0 0) a b (at (left_of (step_of_two φ l a b))) (G (suc n)) (on_two A σ F G (suc n)) (keeping (step_of_two φ 0 0 0) G (on_two A σ F G))
    two_does (by_number o) l a b at F G q = misplaced a b _ _ _
    two_does (by_one o) l a b at F G q = misplaced a b _ _ _
    two_does (by_two {f = f} {g = g} z o) l a b at F G q =
        rw (z l a b, q) (o l a b F G)

module _ (A : Algebra) (e : Event) (r : List A.Val) (es : List Event) (n : ℕ) (P : Plain A n) (R : Along A es n (prior es (suc n))) where
  pub does : (o : Operator) → Does A e r n (prior es (suc n)) (form o) (sense A es o)
  unfolding before earlier over
  does True = by_number (λ k a b y x H. record { kin = no_cells; works = refl; keeps = tt; start = tt })
  does False = by_number (λ k a b y x H. record { kin = no_cells; works = refl; keeps = tt; start = tt })
  does Step = by_number (λ k a b y x H. record { kin = no_cells; works = refl; keeps = tt; start = tt })
  does Call = by_number (λ k a b y x H. record { kin = no_cells; works = refl; keeps = tt; start = tt })
  does Begin = by_number (λ k a b y x H. record { kin = no_cells; works = refl; keeps = tt; start = tt })
  does End = by_number (λ k a b y x H. record { kin = no_cells; works = refl; keeps = tt; start = tt })
  does Return = by_number (λ k a b y x H. record { kin = no_cells; works = refl; keeps = tt; start = tt })
  does Predicate = by_number (λ k a b y x H. record { kin = no_cells; works = refl; keeps = tt; start = tt })
  does Routine = by_number (λ k a b y x H. record { kin = no_cells; works = refl; keeps = tt; start = tt })
  does Not = by_one (λ a b y G. record { kin = no_cells; works = refl; keeps = tt; start = tt })
  does Before = by_one (λ a b y G. record { kin = plains; works = refl; keeps = refl; start = refl })
  does Rbefore = by_one (λ a b y G. record { kin = routines; works = refl; keeps = refl; start = refl })
  does Once = by_one (λ a b y G. record { kin = plains; works = sym (P.once G); keeps = refl; start = refl })
  does Ronce = by_one (λ a b y G. record { kin = routines; works = sym (R.ronce G); keeps = refl; start = refl })
  does Always = by_one (λ a b y G. record { kin = plains; works = sym (P.always G); keeps = refl; start = refl })
  does Ralways = by_one (λ a b y G. record { kin = routines; works = sym (R.ralways G); keeps = refl; start = refl })
  does Rise = by_one (λ a b y G. record { kin = plains; works = refl; keeps = refl; start = refl })
  does Fall = by_one (λ a b y G. record { kin = plains; works = refl; keeps = refl; start = refl })
  does And = by_two (λ l a b. refl) (λ l a b F G. record { kin = no_cells; works = refl; keeps = tt; start = tt })
  does Or = by_two (λ l a b. refl) (λ l a b F G. record { kin = no_cells; works = refl; keeps = tt; start = tt })
  does Implies = by_two (λ l a b. refl) (λ l a b F G. record { kin = no_cells; works = refl; keeps = tt; start = tt })
  does Since = by_two (λ l a b. refl) (λ l a b F G. record { kin = plains; works = sym (P.since F G); keeps = refl; start = refl })
  does Rsince = by_two (λ l a b. refl) (λ l a b F G. record { kin = routines; works = sym (R.rsince F G); keeps = refl; start = refl })
