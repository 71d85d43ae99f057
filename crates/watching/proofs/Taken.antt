-- What holds where an event is taken by the nesting.
use Rattle.std.proofs.Common.{◌≡◌, ℕ, ◌<◌, true, List, [], ◌∷◌, length, None, arith, sym}
use Rattle.reels.proofs.Tests.{passed_both}
use Rattle.std.proofs.lemmas.Option.{none-some}
use borrow.Author.Tests.{clash}
use Rattle.reels.specs.Reels.{fit}
use Rattle.reels.specs.Nesting.{Pending, calm, called, ended, Nest, unfit, in_turn, judged}
use Rattle.reels.specs.declared.Event.{Event}
use Rattle.reels.specs.declared.EventKind.{EventKind}
use Rattle.reels.specs.declared.EventKind.TheVariants.{Step, Call, Begin, End, Return}
use Rattle.history.specs.Moments.{same_kind, is}

-- an end comes where a routine is open
pub end_open : (d : ℕ) (ns : List ℕ) (pd : Pending) (k : EventKind) (m : ℕ) → in_turn d ns pd k m ≡ None → same_kind End k ≡ true → 0 < length ns
end_open d ns pd Step m q e = absurd (clash e)
end_open d ns pd Call m q e = absurd (clash e)
end_open d ns pd Begin m q e = absurd (clash e)
end_open d [] calm End m q e = absurd (none-some _ (sym q))
end_open d (n ∷ ns) calm End m q e = omega arith
end_open d ns (called n) End m q e = absurd (none-some _ (sym q))
end_open d ns (ended n) End m q e = absurd (none-some _ (sym q))
end_open d ns pd Return m q e = absurd (clash e)

pub end_depth : (d : ℕ) (s : Nest) (e : Event) → judged d s e ≡ None → is End e ≡ true → 0 < length s.opened
end_depth d s e q = end_open d s.opened s.pending e.kind e.routine (passed_both (fit e) _ unfit q).1
