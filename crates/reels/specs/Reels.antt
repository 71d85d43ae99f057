-- Which lists of events are well nested. Such a list is called a reel.
--   fits k n       the routine number n fits the kind k: 0 for a step, 1 or more otherwise
--   fit e          the event's number fits its kind
--   event k n      the event of kind k with the routine number n
--   Reel d es      the events es are a well-nested reel in which at most d routines are open together
--   Begins d es    some such reel begins with the events es
--   most o es      the most routines open together during the events es, where o are open before them
use Rattle.std.specs.Prelude.{ℕ, suc, pred, ◌≤◌, max, Bool, ◌↔◌, List, [], ◌∷◌, ◌++◌, ◌==◌, nat_le}
use Rattle.reels.specs.declared.Event.{Event}
use Rattle.reels.specs.declared.EventKind.{EventKind}
use Rattle.reels.specs.declared.EventKind.TheVariants.{Step, Call, Begin, End, Return}

abbrev pub fits : EventKind → ℕ → Bool
fits Step n = n == 0
fits Call n = nat_le 1 n
fits Begin n = nat_le 1 n
fits End n = nat_le 1 n
fits Return n = nat_le 1 n

abbrev pub fit : Event → Bool
fit e = fits e.kind e.routine

abbrev pub event : EventKind → ℕ → Event
event k n = record { kind = k; routine = n }

-- a reel is empty; or a step and a reel; or call, begin, a reel that is less deep, end, return, all four with one
-- routine number, and a reel
pub data Reel : ℕ → List Event → Type 0 where
  nothing : {d : ℕ} → Reel d []
  a_step : {d : ℕ} {es : List Event} → Reel d es → Reel d (event Step 0 ∷ es)
  a_routine : {d n : ℕ} {es fs : List Event} → 1 ≤ n → Reel d es → Reel (suc d) fs → Reel (suc d) (event Call n ∷ event Begin n ∷ (es ++ event End n ∷ event Return n ∷ fs))

abbrev pub Begins : ℕ → List Event → Type 0
Begins d es = (fs : List Event) × Reel d (es ++ fs)

-- how many routines are open after an event, where o were open before it
abbrev pub open_after : ℕ → EventKind → ℕ
open_after o Step = o
open_after o Call = o
open_after o Begin = suc o
open_after o End = pred o
open_after o Return = o

abbrev pub most : ℕ → List Event → ℕ
most o [] = o
most o (e ∷ es) = max o (most (open_after o e.kind) es)

-- a reel's depth, the least d for which it is a Reel d, is the most routines open together
abbrev pub DepthIsMost : Type 0
DepthIsMost = (d k : ℕ) (es : List Event) → Reel k es → Reel d es ↔ (most 0 es ≤ d)
