-- What holds of looking back, in every kind.
--   Prefix A       a value depends on the moments up to its event only
--   Kept A B R     the five operations keep the relation R between two kinds' values
--   Carried A B    a function that keeps the five operations carries every rule's values
--   Plain, Along   what the words that look back make of their operands at an event and their own value at an earlier one
--   Recurrences A  `once`, `always` and `since` follow from the event before, the routine words from the event that they look back to
--   SeenFrom       what is seen from an event: itself, and what is seen from the event that routine words look back to
--   OpenCounts     no more routines have ended than begun, so `open_at` never takes more away than there is
--   Matching       a return belongs to the innermost call that has not returned, and this has its routine number
--   NestMatching   the nest's routine numbers are those of the calls that have not returned, and these are at most the depth
use Rattle.std.specs.Prelude.{◌≡◌, ℕ, suc, ◌≤◌, true, List, ◌∷◌, ◌++◌, map, length}
use Rattle.grammar.specs.Grammar.{Tree}
use Rattle.kinds.specs.Algebra.{Algebra}
use Rattle.reels.specs.Reels.{Begins}
use Rattle.reels.specs.Nesting.{start, follow}
use Rattle.reels.specs.declared.Event.{Event}
use Rattle.reels.specs.declared.EventKind.TheVariants.{Begin, End, Return}
use Rattle.history.specs.Moments.{Moment, event_at, is, tally, call_of, seen, prior}
use Rattle.history.specs.Calls.{calls, routine_at, unreturned}
use Rattle.history.specs.Value.{once, always, since, ronce, ralways, rsince, value}

abbrev pub Prefix : Algebra → Type 0
Prefix A = (t : Tree) (h more : List (Moment A.Val)) (i : ℕ) → i ≤ length h → value A t (h ++ more) i ≡ value A t h i

pub record Kept (A B : Algebra) (R : A.Val → B.Val → Type 0) : Type 0 where
  pub true : R A.true B.true
  pub false : R A.false B.false
  pub not : {x : A.Val} {y : B.Val} → R x y → R (A.not x) (B.not y)
  pub and : {x u : A.Val} {y v : B.Val} → R x y → R u v → R (A.and x u) (B.and y v)
  pub or : {x u : A.Val} {y v : B.Val} → R x y → R u v → R (A.or x u) (B.or y v)

-- the history with its readings carried by f
abbrev pub carried : {V W : Type 0} → (V → W) → List (Moment V) → List (Moment W)
carried f h = map (λ m. record { event = m.event; reading = map f m.reading }) h

abbrev pub Carried : Algebra → Algebra → Type 0
Carried A B = (f : A.Val → B.Val) → Kept A B (λ x y. f x ≡ y) → (t : Tree) (h : List (Moment A.Val)) (i : ℕ) → f (value A t h i) ≡ value B t (carried f h) i

-- at event n + 1, from the event n
pub record Plain (A : Algebra) (n : ℕ) : Type 0 where
  pub once : (F : ℕ → A.Val) → once A F (suc n) ≡ A.or (F (suc n)) (once A F n)
  pub always : (F : ℕ → A.Val) → always A F (suc n) ≡ A.and (F (suc n)) (always A F n)
  pub since : (F G : ℕ → A.Val) → since A F G (suc n) ≡ A.or (G (suc n)) (A.and (F (suc n)) (since A F G n))

-- at event n + 1, from the event p
pub record Along (A : Algebra) (es : List Event) (n p : ℕ) : Type 0 where
  pub ronce : (F : ℕ → A.Val) → ronce A es F (suc n) ≡ A.or (F (suc n)) (ronce A es F p)
  pub ralways : (F : ℕ → A.Val) → ralways A es F (suc n) ≡ A.and (F (suc n)) (ralways A es F p)
  pub rsince : (F G : ℕ → A.Val) → rsince A es F G (suc n) ≡ A.or (G (suc n)) (A.and (F (suc n)) (rsince A es F G p))

-- in events that begin a well-nested reel
abbrev pub Recurrences : Algebra → Type 0
Recurrences A = (n : ℕ) → Plain A n × ((d : ℕ) (es : List Event) → Begins d es → Along A es n (prior es (suc n)))

abbrev pub SeenFrom : Type 0
SeenFrom = (d : ℕ) (es : List Event) → Begins d es → (n j : ℕ) → 1 ≤ j → j ≤ n → (seen es j (suc n) ≡ seen es j (prior es (suc n))) × (seen es j (prior es (suc n)) ≡ true → j ≤ prior es (suc n))

abbrev pub OpenCounts : Type 0
OpenCounts = (d : ℕ) (es : List Event) → Begins d es → (n : ℕ) → n ≤ length es → tally End es n ≤ tally Begin es n

-- at a return at event n + 1
pub record Matched (es : List Event) (n : ℕ) : Type 0 where
  pub innermost : calls es n ≡ call_of es (suc n) ∷ calls es (suc n)
  pub number : routine_at es (call_of es (suc n)) ≡ routine_at es (suc n)

abbrev pub Matching : Type 0
Matching = (d : ℕ) (es : List Event) → Begins d es → (n : ℕ) → is Return (event_at es (suc n)) ≡ true → Matched es n

abbrev pub NestMatching : Type 0
NestMatching = (d : ℕ) (es : List Event) → Begins d es → (map (routine_at es) (calls es (length es)) ≡ unreturned (follow start es)) × (length (calls es (length es)) ≤ d)
