-- What holds where an event is not refused, and which fault refuses it where nothing else is amiss.
use Rattle.std.proofs.Common.{◌≡◌, ℕ, ◌*◌, ◌<◌, ◌≤◌, Bool, true, false, cond, ltb, length, Some, None, Option, refl, ap₂, sym}
use Rattle.reels.proofs.Tests.{passed}
use Rattle.std.proofs.lemmas.Option.{none-some}
use Rattle.std.proofs.lemmas.Bool.{ltb-true, ltb-false, lt-ltb, le-ltb}
use Rattle.std.specs.Option.{option_map}
use Rattle.reels.specs.Nesting.{Fault}
use Rattle.program.specs.declared.program.Program.{Program}
use Rattle.watching.specs.Faults.{max_events}
use Rattle.watching.specs.Memory.{Own, plain_cells, routine_cells, node_count, short_list}
use Rattle.watching.specs.Refusals.{first_of, fault_of, refusal_by}
use Rattle.watching.specs.declared.EventFault.TheVariants.{MissingPredicate, TooManyEvents}
use Rattle.watching.specs.declared.LentList.{LentList}
use Rattle.watching.specs.declared.LentList.TheVariants.{Plain, Routine, Stack, Opened, Working}
use Rattle.watching.specs.declared.WatchFault.TheVariants.{ListTooShort, AtEvent}

-- of two, where the first that there is is none, there is neither
neither : {X Y : Type 0} (f : X → Y) (x : Option X) (y : Option Y) → first_of (option_map f x) y ≡ None → (x ≡ None) × (y ≡ None)
neither f None y q = (refl, q)
neither f (Some x) y q = absurd (none-some _ (sym q))

-- a test that found nothing, and the tests after it
found_not : {X : Type 0} (b : Bool) (x : X) (y : Option X) → cond b (Some x) y ≡ None → (b ≡ false) × (y ≡ None)
found_not true x y q = absurd (none-some _ (sym q))
found_not false x y q = (refl, q)

pub record Passes (list : Option LentList) (nesting : Option Fault) (wanted r count : ℕ) : Type 0 where
  pub short : list ≡ None
  pub fault : nesting ≡ None
  pub asked : wanted ≤ r
  pub room : count < max_events

pub passes : (list : Option LentList) (i : ℕ) (nesting : Option Fault) (wanted r count : ℕ) → refusal_by list i nesting wanted r count ≡ None → Passes list nesting wanted r count
passes list i nesting wanted r count q =
    let a = neither ListTooShort list _ q in
    let b = neither (fault_of i) nesting _ a.1 in
    let c = found_not (ltb r wanted) (AtEvent i MissingPredicate) _ b.1 in
    record { short = a.0; fault = b.0; asked = ltb-false r wanted c.0; room = ltb-true count max_events (passed (ltb count max_events) (AtEvent i TooManyEvents) c.1) }

-- with memory, predicates and numbers enough, only a fault of the nesting refuses
pub only_fault : (i : ℕ) (nesting : Option Fault) (wanted r count : ℕ) → wanted ≤ r → count < max_events → refusal_by None i nesting wanted r count ≡ option_map (fault_of i) nesting
only_fault i (Some f) wanted r count l m = refl
only_fault i None wanted r count l m = ap₂ (λ x y. cond x (Some (AtEvent i MissingPredicate)) (cond y None (Some (AtEvent i TooManyEvents)))) (le-ltb r wanted l) (lt-ltb count max_events m)

-- every list is long enough
pub record Long {V : Type 0} (p : Program) (d : ℕ) (o : Own V) (w : ℕ) : Type 0 where
  pub plain : plain_cells p ≤ length o.plain
  pub routine : routine_cells p ≤ length o.routine
  pub stack : routine_cells p * d ≤ length o.stack
  pub opened : d ≤ length o.opened
  pub working : node_count p ≤ w

pub long : {V : Type 0} (p : Program) (d : ℕ) (o : Own V) (w : ℕ) → short_list p d o w ≡ None → Long p d o w
long p d o w q =
    let a = found_not (ltb (length o.plain) (plain_cells p)) Plain _ q in
    let b = found_not (ltb (length o.routine) (routine_cells p)) Routine _ a.1 in
    let c = found_not (ltb (length o.stack) (routine_cells p * d)) Stack _ b.1 in
    let e = found_not (ltb (length o.opened) d) Opened _ c.1 in
    let f = found_not (ltb w (node_count p)) Working _ e.1 in
    record {
      plain = ltb-false (length o.plain) (plain_cells p) a.0;
      routine = ltb-false (length o.routine) (routine_cells p) b.0;
      stack = ltb-false (length o.stack) (routine_cells p * d) c.0;
      opened = ltb-false (length o.opened) d e.0;
      working = ltb-false w (node_count p) f.0;
    }
