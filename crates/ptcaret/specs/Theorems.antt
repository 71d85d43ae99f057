-- What holds of satisfaction on traces that begin a well-nested reel.
--   ValueIsSatisfaction    a rule's two-valued value by looking back is whether the trace satisfies it
--   AbstractPrefixIsPrior  the abstract prefix ends at the event that routine words look back to
use Rattle.std.specs.Prelude.{ℕ, suc, ◌≤◌, ◌<◌, true, false, ◌≡◌, ◌↔◌, length, take}
use Rattle.grammar.specs.Grammar.{Tree}
use Rattle.kinds.specs.Two.{two as two_valued}
use Rattle.reels.specs.Reels.{Begins}
use Rattle.history.specs.Moments.{events, prior}
use Rattle.history.specs.Value.{value}
use Rattle.ptcaret.specs.Traces.{Trace, AbstractPrefix}
use Rattle.ptcaret.specs.Satisfaction.{Sat}

-- the value at the last event of a history: true where the history, as a trace, satisfies the rule, and false where it does not
abbrev pub ValueIsSatisfaction : Type 0
ValueIsSatisfaction = (t : Tree) (h : Trace) (d : ℕ) → 1 ≤ length h → Begins d (events h) → (Sat t h ↔ (value two_valued t h (length h) ≡ true)) × ((Sat t h → ⊥) ↔ (value two_valued t h (length h) ≡ false))

-- of the first n + 1 states: so the call that erasing finds for a return is the one that is found by counting open routines
abbrev pub AbstractPrefixIsPrior : Type 0
AbstractPrefixIsPrior = (h v : Trace) (d n : ℕ) → n < length h → Begins d (events h) → AbstractPrefix (take (suc n) h) v ↔ (v ≡ take (prior (events h) (suc n)) h)
