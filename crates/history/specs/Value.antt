-- The value of a rule at an event of a history, by looking back.
--   or_to A F i                      the or of F over the events 1 to i; and_to A F i the and
--   and_between A F j i              the and of F over the events after j up to i
--   earlier A F p                    F at the event p, false where there is none
--   before, once, always, since      what the words of these names make of their operands' values
--   rbefore, ronce, ralways, rsince  the same along what is seen from an event
--   Sense V, sense A es o            what an operator makes of its operands, in a history with the events es
--   value A t h i                    the value of the rule with the tree t at event i of the history h
use Rattle.std.specs.Prelude.{ℕ, zero, suc, Bool, cond, List, ◌==◌, nat_lt, slice_index_or}
use Rattle.words.specs.declared.Operator.{Operator}
use Rattle.words.specs.declared.Operator.TheVariants.{And, Or, Implies, Since, Rsince, Not, Before, Rbefore, Once, Ronce, Always, Ralways, Rise, Fall, True, False, Step, Call, Begin, End, Return, Predicate, Routine}
use Rattle.grammar.specs.Grammar.{Tree, leaf, one, two}
use Rattle.kinds.specs.Algebra.{Algebra}
use Rattle.reels.specs.declared.Event.{Event}
use Rattle.reels.specs.declared.EventKind.{EventKind}
use Rattle.history.specs.Moments.{Moment, events, event_at, reading_at, is, over, seen, prior}

-- what a word makes of its number, the event and its reading, or of its operands' values at every event
pub data Sense (V : Type 0) : Type 0 where
  of_event : (ℕ → Event → List V → V) → Sense V
  of_one : ((ℕ → V) → ℕ → V) → Sense V
  of_two : ((ℕ → V) → (ℕ → V) → ℕ → V) → Sense V

module _ (A : Algebra) where
  abbrev pub or_to : (ℕ → A.Val) → ℕ → A.Val
  or_to F i = over A.or A.false F i

  abbrev pub and_to : (ℕ → A.Val) → ℕ → A.Val
  and_to F i = over A.and A.true F i

  abbrev pub and_between : (ℕ → A.Val) → ℕ → ℕ → A.Val
  and_between F j i = and_to (λ k. cond (nat_lt j k) (F k) A.true) i

  unfoldable pub earlier : (ℕ → A.Val) → ℕ → A.Val
  earlier F zero = A.false
  earlier F (suc p) = F (suc p)

  unfoldable pub before : (ℕ → A.Val) → ℕ → A.Val
  before F zero = A.false
  before F (suc i) = earlier F i

  abbrev pub once : (ℕ → A.Val) → ℕ → A.Val
  once F i = or_to F i

  abbrev pub always : (ℕ → A.Val) → ℕ → A.Val
  always F i = and_to F i

  -- at some j up to i the second held, and ever since then the first
  abbrev pub since : (ℕ → A.Val) → (ℕ → A.Val) → ℕ → A.Val
  since F G i = or_to (λ j. A.and (G j) (and_between F j i)) i

  -- the test's value in the kind
  abbrev pub truth : Bool → A.Val
  truth b = cond b A.true A.false

  module _ (es : List Event) where
    abbrev pub rbefore : (ℕ → A.Val) → ℕ → A.Val
    rbefore F i = earlier F (prior es i)

    -- F where it is seen from i, else d
    abbrev pub if_seen : A.Val → (ℕ → A.Val) → ℕ → ℕ → A.Val
    if_seen d F i j = cond (seen es j i) (F j) d

    abbrev pub ronce : (ℕ → A.Val) → ℕ → A.Val
    ronce F i = or_to (if_seen A.false F i) i

    abbrev pub ralways : (ℕ → A.Val) → ℕ → A.Val
    ralways F i = and_to (if_seen A.true F i) i

    abbrev pub rsince : (ℕ → A.Val) → (ℕ → A.Val) → ℕ → A.Val
    rsince F G i = or_to (if_seen A.false (λ j. A.and (G j) (and_between (if_seen A.true F i) j i)) i) i

    abbrev pub kind_word : EventKind → Sense A.Val
    kind_word k = of_event (λ n e r. truth (is k e))

    abbrev pub sense : Operator → Sense A.Val
    sense True = of_event (λ n e r. A.true)
    sense False = of_event (λ n e r. A.false)
    sense Step = kind_word EventKind.Step
    sense Call = kind_word EventKind.Call
    sense Begin = kind_word EventKind.Begin
    sense End = kind_word EventKind.End
    sense Return = kind_word EventKind.Return
    sense Predicate = of_event (λ n e r. slice_index_or r n A.false)
    sense Routine = of_event (λ n e r. truth (e.routine == n))
    sense Not = of_one (λ F i. A.not (F i))
    sense Before = of_one before
    sense Rbefore = of_one rbefore
    sense Once = of_one once
    sense Ronce = of_one ronce
    sense Always = of_one always
    sense Ralways = of_one ralways
    sense Rise = of_one (λ F i. A.and (F i) (A.not (before F i)))
    sense Fall = of_one (λ F i. A.and (A.not (F i)) (before F i))
    sense And = of_two (λ F G i. A.and (F i) (G i))
    sense Or = of_two (λ F G i. A.or (F i) (G i))
    sense Implies = of_two (λ F G i. A.or (A.not (F i)) (G i))
    sense Since = of_two since
    sense Rsince = of_two rsince

  -- a word's value without operands, with one and with two; false where it has another number of them and so stands in no rule
  abbrev pub on_none : Sense A.Val → ℕ → Event → List A.Val → A.Val
  on_none (of_event f) n e r = f n e r
  on_none (of_one f) n e r = A.false
  on_none (of_two f) n e r = A.false

  abbrev pub on_one : Sense A.Val → (ℕ → A.Val) → ℕ → A.Val
  on_one (of_event f) F i = A.false
  on_one (of_one f) F i = f F i
  on_one (of_two f) F i = A.false

  abbrev pub on_two : Sense A.Val → (ℕ → A.Val) → (ℕ → A.Val) → ℕ → A.Val
  on_two (of_event f) F G i = A.false
  on_two (of_one f) F G i = A.false
  on_two (of_two f) F G i = f F G i

  unfoldable pub value : Tree → List (Moment A.Val) → ℕ → A.Val
  value (leaf w) h i = on_none (sense (events h) w.operator) w.number (event_at (events h) i) (reading_at h i)
  value (one w t) h i = on_one (sense (events h) w.operator) (value t h) i
  value (two w l r) h i = on_two (sense (events h) w.operator) (value l h) (value r h) i
