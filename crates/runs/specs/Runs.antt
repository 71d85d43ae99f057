-- Runs of a watcher: a making, and then any events, accepted or refused.
--   Exchange K       an event that was given, with its reading, and the answer to it
--   accepted xs      the moments that were accepted among the exchanges xs, in order
--   Run p d xs n o   a watcher with the program p and the depth limit d was made and then given the events of xs, and nothing else
--                    wrote its lists 1 to 4; now it has the nesting n, and these lists hold o
use Rattle.std.specs.Prelude.{ℕ, List, [], ◌∷◌, ◌++◌, map, Ok, Err, Result}
use Rattle.kinds.specs.Algebra.{Algebra}
use Rattle.reels.specs.declared.Event.{Event}
use Rattle.history.specs.Moments.{Moment}
use Rattle.program.specs.declared.program.Program.{Program}
use Rattle.watching.specs.Memory.{Own}
use Rattle.watching.specs.Calls.{Made, Given}
use Rattle.watching.specs.declared.Nesting.{Nesting}
use Rattle.watching.specs.declared.Verdict.{Verdict}
use Rattle.watching.specs.declared.WatchFault.{WatchFault}

abbrev pub Answer : Type 0 → Type 0
Answer K = Result (Verdict K) WatchFault

pub record Exchange (K : Type 0) : Type 0 where
  pub event : Event
  pub reading : List K
  pub answer : Answer K

abbrev pub exchange : {K : Type 0} → Event → List K → Answer K → Exchange K
exchange e r a = record { event = e; reading = r; answer = a }

-- x where the answer is a verdict
abbrev pub if_accepted : {K X : Type 0} → Answer K → X → List X
if_accepted (Ok v) x = x ∷ []
if_accepted (Err f) x = []

module _ (A : Algebra) {K : Type 0} (means : K → A.Val) where
  -- an event with what its reading means
  abbrev pub moment : Event → List K → Moment A.Val
  moment e r = record { event = e; reading = map means r }

  unfoldable pub accepted : List (Exchange K) → List (Moment A.Val)
  accepted [] = []
  accepted (x ∷ xs) = if_accepted x.answer (moment x.event x.reading) ++ accepted xs

  -- list 5 may be another at each call, and hold anything
  pub data Run (p : Program) (d : ℕ) : List (Exchange K) → Nesting → Own K → Type 0 where
    made : (o : Own K) {o' : Own K} (w w' : List K) {n : Nesting} → Made A means p d o w (Ok n) o' w' → Run p d [] n o'
    given : {xs : List (Exchange K)} {n n' : Nesting} {o o' : Own K} (x : Exchange K) (w w' : List K) → Run p d xs n o → Given A means p n o w x.event x.reading x.answer n' o' w' → Run p d (xs ++ x ∷ []) n' o'
