-- The room that an event needs where the nesting takes it, and the room that it leaves.
use Rattle.std.proofs.Common.{◌≡◌, ℕ, ◌+◌, ◌*◌, ◌<◌, ◌≤◌, List, length, Some, None, Option, sym, refl, mul-le-mul_left, mul-suc, arith}
use Rattle.std.proofs.lemmas.Option.{none-some}
use Rattle.reels.specs.Reels.{fit}
use Rattle.reels.proofs.Tests.{passed_both}
use Rattle.reels.specs.Nesting.{unfit, in_turn, judged}
use Rattle.reels.specs.declared.Event.{Event}
use Rattle.reels.specs.declared.EventKind.{EventKind}
use Rattle.reels.specs.declared.EventKind.TheVariants.{Step, Call, Begin, End, Return}
use Rattle.watching.specs.Refusals.{pending_of, nest_of, routines_in}
use Rattle.watching.specs.declared.Due.{Due}
use Rattle.watching.specs.declared.Nesting.{Nesting}
use Rattle.watching.specs.declared.OpenRoutine.{OpenRoutine}
use Rattle.watching.proofs.Taken.{end_open}
use Rattle.monitor.specs.Room.{begin_due}
use Rattle.monitor.specs.Keeping.{Room}
use Rattle.monitor.proofs.Nests.{routines_length}

-- a begin comes only where it is due, and so there is room for its routine
begin_room : (l : ℕ) (ns : List ℕ) (u : Option Due) (m d : ℕ) → in_turn l ns (pending_of u) Begin m ≡ None → begin_due u + d ≤ l → d < l
begin_room l ns None m d q h = absurd (none-some _ (sym q))
begin_room l ns (Some (Due.Begin r)) m d q h = omega arith
begin_room l ns (Some (Due.Return r)) m d q h = absurd (none-some _ (sym q))

module _ (n : Nesting) (os : List OpenRoutine) (e : Event) (taken : judged n.limit (nest_of n os) e ≡ None) (roomy : begin_due n.due + n.depth ≤ n.limit) (long : n.limit ≤ length os) where
  ns : List ℕ
  ns = routines_in n.depth os

  in_turn_lem : in_turn n.limit ns (pending_of n.due) e.kind e.routine ≡ None
  unfolding ns
  in_turn_lem = (passed_both (fit e) _ unfit taken).1

  deep : length ns ≡ n.depth
  unfolding ns
  deep = routines_length n.depth os (omega arith)

  -- the room that the event needs, where the lists are long enough for the limit
  pub room : (b s : ℕ) → b * n.limit ≤ s → Room b n.depth s (length os) e.kind
  room b s h = at e.kind in_turn_lem
    where
      at : (k : EventKind) → in_turn n.limit ns (pending_of n.due) k e.routine ≡ None → Room b n.depth s (length os) k
      at Step q = tt
      at Call q = tt
      at Begin q =
          let below : n.depth < n.limit = begin_room n.limit ns n.due e.routine n.depth q roomy in
          (omega (arith, mul-suc b n.depth, mul-le-mul_left b below), omega arith)
      at End q = (omega (arith, end_open n.limit ns (pending_of n.due) End e.routine q refl, deep), omega (arith, mul-le-mul_left {m = n.depth} {n = n.limit} b (omega arith)))
      at Return q = tt
