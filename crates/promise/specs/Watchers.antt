-- Watchers as they look from outside: whatever answers events. No cell, no program and no code stands here.
--   Answering K       what is answered to an event with its reading, after the exchanges so far
--   put f xs e r      the exchanges xs and then one more: f is given the event e with the reading r
--   Exchanged f xs    the exchanges xs came about by f alone
--   past xs           the moments that were accepted among the exchanges xs, by what their readings mean
--   Gives f xs e r v  after the exchanges xs, f gives the verdict v to the event e with the reading r
--   Keeps t d f       f keeps the promise of a two-valued watcher of the rule with the tree t under the depth limit d, with
--                     memory enough: after all exchanges that can come about, every event is answered right
--   Making K          what is answered to a making from a program, a depth limit, lists 1 to 4 and list 5
--   Makes m           m keeps the promise of a making
use Rattle.std.specs.Prelude.{◌≡◌, ℕ, Bool, List, [], ◌∷◌, ◌++◌, None, Ok, Result}
use Rattle.grammar.specs.Grammar.{Tree}
use Rattle.kinds.specs.Two.{two, two_means}
use Rattle.kinds.specs.declared.two.Two.{Two}
use Rattle.reels.specs.declared.Event.{Event}
use Rattle.history.specs.Moments.{Moment}
use Rattle.program.specs.declared.program.Program.{Program}
use Rattle.watching.specs.Calls.{Made}
use Rattle.watching.specs.Memory.{Own}
use Rattle.watching.specs.declared.Nesting.{Nesting}
use Rattle.watching.specs.declared.Verdict.{Verdict}
use Rattle.watching.specs.declared.WatchFault.{WatchFault}
use Rattle.runs.specs.Runs.{Answer, Exchange, accepted}
use Rattle.runs.specs.Promise.{Answered}

abbrev pub Answering : Type 0 → Type 0
Answering K = List (Exchange K) → Event → List K → Answer K

abbrev pub put : {K : Type 0} → Answering K → List (Exchange K) → Event → List K → List (Exchange K)
put f xs e r = xs ++ record { event = e; reading = r; answer = f xs e r } ∷ []

-- there was none so far, or one more event was given
pub data Exchanged {K : Type 0} (f : Answering K) : List (Exchange K) → Type 0 where
  none : Exchanged f []
  more : {xs : List (Exchange K)} → Exchanged f xs → (e : Event) (r : List K) → Exchanged f (put f xs e r)

abbrev pub past : List (Exchange Two) → List (Moment Bool)
past xs = accepted two two_means xs

pub record Gives (f : Answering Two) (xs : List (Exchange Two)) (e : Event) (r : List Two) (v : Verdict Two) : Type 0 where
  pub exchanged : Exchanged f xs
  pub verdict : f xs e r ≡ Ok v

abbrev pub Keeps : Tree → ℕ → Answering Two → Type 0
Keeps t d f = (xs : List (Exchange Two)) → Exchanged f xs → (e : Event) (r : List Two) → Answered two two_means t d (past xs) None e r (f xs e r)

abbrev pub Making : Type 0 → Type 0
Making K = Program → ℕ → Own K → List K → Result Nesting WatchFault

-- with some lists that it leaves
abbrev pub Makes : Making Two → Type 0
Makes m = (p : Program) (d : ℕ) (o : Own Two) (w : List Two) → (o' : Own Two) × (w' : List Two) × Made two two_means p d o w (m p d o w) o' w'
