-- Two rules along a reel with one routine.
--   reel           a step, the call of routine 7, its begin, a step, its end, its return and a step, with p0 and p1 at each
--   along t        the values of the rule with the tree t at its events
--   Worked         `rbefore p1` and `ronce (p0 and before p1)` along it
use Rattle.std.specs.Prelude.{◌≡◌, ℕ, Bool, true, false, List, [], ◌∷◌, map}
use Rattle.words.specs.declared.Word.{Word}
use Rattle.words.specs.declared.Operator.{Operator}
use Rattle.words.specs.declared.Operator.TheVariants.{And, Before, Rbefore, Ronce, Predicate}
use Rattle.grammar.specs.Grammar.{Tree, leaf, one, two}
use Rattle.kinds.specs.Two.{two as two_valued}
use Rattle.reels.specs.declared.EventKind.{EventKind}
use Rattle.reels.specs.declared.EventKind.TheVariants.{Step, Call, Begin, End, Return}
use Rattle.history.specs.Moments.{Moment}
use Rattle.history.specs.Value.{value}

-- an event with the values of p0 and p1
abbrev pub moment : EventKind → ℕ → Bool → Bool → Moment Bool
moment k n p0 p1 = record { event = record { kind = k; routine = n }; reading = p0 ∷ p1 ∷ [] }

abbrev pub reel : List (Moment Bool)
reel = moment Step 0 true false ∷ moment Call 7 false true ∷ moment Begin 7 false true ∷ moment Step 0 true false ∷ moment End 7 false false ∷ moment Return 7 false true ∷ moment Step 0 false false ∷ []

abbrev pub word : Operator → ℕ → Word
word o n = record { operator = o; number = n }

abbrev pub p : ℕ → Tree
p n = leaf (word Predicate n)

abbrev pub along : Tree → List Bool
along t = map (value two_valued t reel) (1 ∷ 2 ∷ 3 ∷ 4 ∷ 5 ∷ 6 ∷ 7 ∷ [])

pub record Worked : Type 0 where
  pub rbefore_p1 : along (one (word Rbefore 0) (p 1)) ≡ false ∷ false ∷ true ∷ true ∷ false ∷ true ∷ true ∷ []
  pub ronce_both : along (one (word Ronce 0) (two (word And 0) (p 0) (one (word Before 0) (p 1)))) ≡ false ∷ false ∷ false ∷ true ∷ true ∷ false ∷ false ∷ []
