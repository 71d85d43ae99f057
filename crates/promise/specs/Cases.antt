-- Cases worked out from the definitions alone.
--   reading w             the values of p0 and p1 that the word w holds, in its bits 0 and 1
--   moment k n w          an event of the kind k with the routine number n, and the reading of the word w
--   reel                  a step, the call of routine 7, its begin, a step, its end, its return and a step
--   along t               the two-valued values of the rule with the tree t at the events of the reel, by looking back
--   Case text t vs        the text is a rule, it writes the tree t, and its values along the reel are vs
--   TextRefused text n i  the text is refused by the refusal with the number n at the place i
--   EventRefused h e n i  behind the accepted moments h, the one right answer to the event e is the refusal with the number n
--                         at the place i, for every rule, depth limit and reading
--   margins x y           one step at which p0 has the margin x and p1 the margin y
--   Worked                the cases
use Rattle.std.specs.Prelude.{◌≡◌, ℕ, ◌/◌, ◌%◌, Bool, true as yes, false as no, List, [], ◌∷◌, map, ℤ, pos, neg_ℤ, None, Err, codes, ◌==◌}
use Rattle.words.specs.declared.Operator.TheVariants.{And, Not, Before, Rbefore, Once, Ronce, Rise}
use Rattle.grammar.specs.Faults.{number, place}
use Rattle.grammar.specs.Grammar.{Tree, one, two}
use Rattle.grammar.specs.Refusals.{Accepts, Refused}
use Rattle.grammar.specs.declared.TextFault.{TextFault}
use Rattle.kinds.specs.Margin.{Held, held, margin}
use Rattle.kinds.specs.Two.{two as two_valued, two_means}
use Rattle.kinds.specs.declared.two.Two.{Two}
use Rattle.reels.specs.Reels.{event, Reel}
use Rattle.reels.specs.declared.Event.{Event}
use Rattle.reels.specs.declared.EventKind.{EventKind}
use Rattle.reels.specs.declared.EventKind.TheVariants.{Step, Call, Begin, End, Return}
use Rattle.history.specs.Moments.{Moment, events}
use Rattle.history.specs.Value.{value}
use Rattle.watching.specs.Faults.{fault_number, fault_place}
use Rattle.watching.specs.declared.WatchFault.{WatchFault}
use Rattle.runs.specs.Runs.{Answer}
use Rattle.runs.specs.Promise.{Answered}
use Rattle.promise.specs.Trees.{word, p}

abbrev pub reading : ℕ → List Bool
reading w = (w % 2 == 1) ∷ (w / 2 % 2 == 1) ∷ []

abbrev pub moment : EventKind → ℕ → ℕ → Moment Bool
moment k n w = record { event = event k n; reading = reading w }

abbrev pub reel : List (Moment Bool)
reel = moment Step 0 1 ∷ moment Call 7 2 ∷ moment Begin 7 2 ∷ moment Step 0 1 ∷ moment End 7 0 ∷ moment Return 7 2 ∷ moment Step 0 0 ∷ []

abbrev pub along : Tree → List Bool
along t = map (value two_valued t reel) (1 ∷ 2 ∷ 3 ∷ 4 ∷ 5 ∷ 6 ∷ 7 ∷ [])

pub record Case (text : List ℕ) (t : Tree) (vs : List Bool) : Type 0 where
  pub reads : Accepts text t
  pub values : along t ≡ vs

abbrev pub TextRefused : List ℕ → ℕ → ℕ → Type 0
TextRefused text n i = (f : TextFault) × Refused text f × (number f ≡ n) × (place f ≡ i)

-- with memory enough
abbrev pub EventRefused : List (Moment Bool) → Event → ℕ → ℕ → Type 0
EventRefused h e n i = (t : Tree) (d : ℕ) (r : List Two) (a : Answer Two) → Answered two_valued two_means t d h None e r a → (f : WatchFault) × (a ≡ Err f) × (fault_number f ≡ n) × (fault_place f ≡ i)

abbrev pub margins : ℤ → ℤ → List (Moment Held)
margins x y = record { event = event Step 0; reading = held x ∷ held y ∷ [] } ∷ []

-- the rule `p0 and before p1`
abbrev pub both : Tree
both = two (word And 0) (p 0) (one (word Before 0) (p 1))

-- the rule `p0 and not p1`
abbrev pub apart : Tree
apart = two (word And 0) (p 0) (one (word Not 0) (p 1))

pub record Worked : Type 0 where
  -- the reel is well nested, and one routine is open at most
  pub nested : Reel 1 (events reel)
  -- `before` looks back one event, whatever it is
  pub before_p1 : Case (codes "before p1") (one (word Before 0) (p 1)) (no ∷ no ∷ yes ∷ yes ∷ no ∷ no ∷ yes ∷ [])
  -- `rbefore` looks back from the return to the call
  pub rbefore_p1 : Case (codes "rbefore p1") (one (word Rbefore 0) (p 1)) (no ∷ no ∷ yes ∷ yes ∷ no ∷ yes ∷ yes ∷ [])
  -- once inside the routine: `once` keeps it, `ronce` loses it from the return on
  pub once_both : Case (codes "once (p0 and before p1)") (one (word Once 0) both) (no ∷ no ∷ no ∷ yes ∷ yes ∷ yes ∷ yes ∷ [])
  pub ronce_both : Case (codes "ronce (p0 and before p1)") (one (word Ronce 0) both) (no ∷ no ∷ no ∷ yes ∷ yes ∷ no ∷ no ∷ [])
  -- `rise` is yes at the first event, where nothing came before
  pub rise_p0 : Case (codes "rise p0") (one (word Rise 0) (p 0)) (yes ∷ no ∷ no ∷ yes ∷ no ∷ no ∷ no ∷ [])
  pub empty_text : TextRefused (codes "") 15 0
  -- a second two-sided word wants parentheses
  pub without_parentheses : TextRefused (codes "p1 and p2 or p3") 14 10
  -- an end where nothing is open, as the first event
  pub end_first : EventRefused [] (event End 7) 35 1
  -- a begin of another routine than the one just called
  pub begin_of_another : EventRefused (moment Call 7 2 ∷ []) (event Begin 8) 32 2
  -- in the margin kind, where p0 has 40 and p1 has -15: the lesser of 40 and 15
  pub margin_text : Accepts (codes "p0 and not p1") apart
  pub margin_15 : (value margin apart (margins (pos 40) (neg_ℤ (pos 15))) 1).value ≡ pos 15
