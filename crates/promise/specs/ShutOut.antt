-- What the promise of a watcher shuts out. Each statement says that nothing which keeps the promise is wrong in one way.
--   ShutsOut t d W   nothing that keeps the promise for the rule with the tree t under the depth limit d is wrong in the way W
--   KeptBySome       for every rule and depth limit, something keeps the promise: no statement below is idle
-- The wrong ways, each with the statement that shuts it out:
--   RepeatsFirst     FirstEventOnly         every later verdict has the value of the first one
--   WrongLater       LaterEventsToo         some verdict after accepted events has another value than by looking back, however right
--                                           the answers are where nothing was accepted
--   OneValue         OneVerdict             all verdicts have one value
--   Forgets          NoCells                an event gets the value that it would get as the first, whatever was accepted before it
--   NeverAsks        SourceNotAsked         the answer is the same for all readings of one length
--   CountsBy g       MadeUpNumbers          the verdict after n accepted events has the number g n, which is not n + 1 for some n
--   CountsRefused    RefusedNumbered        refused events are counted too
--   RefusesRight     RefusedWithoutCause    some event is refused although a well-nested reel within the depth limit begins with
--                                           the accepted events and then it, the reading has all predicates, and there are event
--                                           numbers left
--   RefusesLastCall  TooDeepEarly           every call is refused while one routine less than the depth limit is open
-- Of makings:
--   MakingRefusedWithoutCause  none is refused where the depth limit is at most 256 and no list is too short
--   MakingRefusesAll           for no program and no depth limit up to 256 are all refused, whatever memory is lent
use Rattle.std.specs.Prelude.{◌≡◌, ℕ, suc, ◌<◌, ◌≤◌, true, List, [], ◌∷◌, ◌++◌, length, is_err, Some, None, Ok, Err, Option, ◌≢◌}
use Rattle.words.specs.declared.Operator.TheVariants.{Before}
use Rattle.grammar.specs.Grammar.{Tree, one}
use Rattle.kinds.specs.Two.{two, two_means}
use Rattle.kinds.specs.declared.two.Two.{Two}
use Rattle.reels.specs.Reels.{event, Begins}
use Rattle.reels.specs.declared.Event.{Event}
use Rattle.reels.specs.declared.EventKind.TheVariants.{Call}
use Rattle.history.specs.Moments.{events, open_at}
use Rattle.history.specs.Value.{value}
use Rattle.program.specs.Programs.{HasAll}
use Rattle.program.specs.declared.program.Program.{Program}
use Rattle.watching.specs.Faults.{max_limit, max_events}
use Rattle.watching.specs.Memory.{Own, short_list}
use Rattle.watching.specs.declared.Verdict.{Verdict}
use Rattle.runs.specs.Runs.{Exchange, moment}
use Rattle.promise.specs.Trees.{word, p}
use Rattle.promise.specs.Watchers.{Answering, Exchanged, past, Gives, Keeps, Making, Makes}

abbrev pub ShutsOut : Tree → ℕ → (Answering Two → Type 0) → Type 0
ShutsOut t d W = (f : Answering Two) → Keeps t d f → W f → ⊥

abbrev pub KeptBySome : Type 0
KeptBySome = (t : Tree) (d : ℕ) → (f : Answering Two) × Keeps t d f

-- the first verdict among the answers
abbrev pub first_verdict : List (Exchange Two) → Option (Verdict Two)
first_verdict [] = None
first_verdict (x ∷ xs) = elim x.answer [ Ok v ↦ Some v | Err g ↦ first_verdict xs ]

abbrev pub RepeatsFirst : Answering Two → Type 0
RepeatsFirst f = (xs : List (Exchange Two)) (e : Event) (r : List Two) (u v : Verdict Two) → Gives f xs e r v → first_verdict xs ≡ Some u → v.value ≡ u.value

abbrev pub FirstEventOnly : Type 0
FirstEventOnly = (d : ℕ) → ShutsOut (p 0) d RepeatsFirst

pub record WrongLater (t : Tree) (f : Answering Two) : Type 0 where
  pub exchanges : List (Exchange Two)
  pub event : Event
  pub reading : List Two
  pub verdict : Verdict Two
  pub gives : Gives f exchanges event reading verdict
  pub later : 0 < length (past exchanges)
  pub wrong : two_means verdict.value ≢ value two t (past exchanges ++ moment two two_means event reading ∷ []) (suc (length (past exchanges)))

abbrev pub LaterEventsToo : Type 0
LaterEventsToo = (t : Tree) (d : ℕ) → ShutsOut t d (WrongLater t)

abbrev pub OneValue : Answering Two → Type 0
OneValue f = (x : Two) × ((xs : List (Exchange Two)) (e : Event) (r : List Two) (v : Verdict Two) → Gives f xs e r v → v.value ≡ x)

abbrev pub OneVerdict : Type 0
OneVerdict = (d : ℕ) → ShutsOut (p 0) d OneValue

abbrev pub Forgets : Answering Two → Type 0
Forgets f = (xs : List (Exchange Two)) (e : Event) (r : List Two) (u v : Verdict Two) → Gives f xs e r v → Gives f [] e r u → v.value ≡ u.value

-- the rule `before p0`
abbrev pub NoCells : Type 0
NoCells = (d : ℕ) → ShutsOut (one (word Before 0) (p 0)) d Forgets

abbrev pub NeverAsks : Answering Two → Type 0
NeverAsks f = (xs : List (Exchange Two)) (e : Event) (r s : List Two) → Exchanged f xs → length r ≡ length s → f xs e r ≡ f xs e s

abbrev pub SourceNotAsked : Type 0
SourceNotAsked = (d : ℕ) → ShutsOut (p 0) d NeverAsks

abbrev pub CountsBy : (ℕ → ℕ) → Answering Two → Type 0
CountsBy g f = (xs : List (Exchange Two)) (e : Event) (r : List Two) (v : Verdict Two) → Gives f xs e r v → v.number ≡ g (length (past xs))

-- a count from 0, one number for all events, or any other count
abbrev pub MadeUpNumbers : Type 0
MadeUpNumbers = (t : Tree) (d : ℕ) (g : ℕ → ℕ) (n : ℕ) → n < max_events → (g n ≢ suc n) → ShutsOut t d (CountsBy g)

abbrev pub CountsRefused : Answering Two → Type 0
CountsRefused f = (xs : List (Exchange Two)) (e : Event) (r : List Two) (v : Verdict Two) → Gives f xs e r v → v.number ≡ suc (length xs)

abbrev pub RefusedNumbered : Type 0
RefusedNumbered = (t : Tree) (d : ℕ) → ShutsOut t d CountsRefused

pub record RefusesRight (t : Tree) (d : ℕ) (f : Answering Two) : Type 0 where
  pub exchanges : List (Exchange Two)
  pub exchanged : Exchanged f exchanges
  pub event : Event
  pub reading : List Two
  pub begins : Begins d (events (past exchanges) ++ event ∷ [])
  pub all_read : HasAll (length reading) t
  pub numbers_left : length (past exchanges) < max_events
  pub refused : is_err (f exchanges event reading) ≡ true

abbrev pub RefusedWithoutCause : Type 0
RefusedWithoutCause = (t : Tree) (d : ℕ) → ShutsOut t d (RefusesRight t d)

-- how many routines are open behind the accepted events
abbrev pub open_now : List (Exchange Two) → ℕ
open_now xs = open_at (events (past xs)) (length (past xs))

-- where the depth limit is d + 1
abbrev pub RefusesLastCall : ℕ → Answering Two → Type 0
RefusesLastCall d f = (xs : List (Exchange Two)) (n : ℕ) (r : List Two) → Exchanged f xs → open_now xs ≡ d → is_err (f xs (event Call n) r) ≡ true

abbrev pub TooDeepEarly : Type 0
TooDeepEarly = (t : Tree) (d : ℕ) → suc d ≤ max_limit → ShutsOut t (suc d) (RefusesLastCall d)

abbrev pub MakingRefusedWithoutCause : Type 0
MakingRefusedWithoutCause = (m : Making Two) → Makes m → (p : Program) (d : ℕ) (o : Own Two) (w : List Two) → d ≤ max_limit → short_list p d o (length w) ≡ None → is_err (m p d o w) ≢ true

abbrev pub MakingRefusesAll : Type 0
MakingRefusesAll = (m : Making Two) → Makes m → (p : Program) (d : ℕ) → d ≤ max_limit → ((o : Own Two) (w : List Two) → is_err (m p d o w) ≡ true) → ⊥
