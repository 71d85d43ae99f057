-- A making with memory enough is not refused, and there is memory enough for every program.
use Rattle.std.proofs.Common.{◌≡◌, ℕ, ◌*◌, ◌≤◌, Bool, true, false, cond, ltb, List, length, replicate, is_err, Some, None, Ok, Err, Option, Result, sym, refl, ap, ◌∙◌, arith}
use Rattle.std.proofs.lemmas.Option.{none-some}
use Rattle.std.proofs.lemmas.Bool.{le-ltb}
use lib.ListN.{length-replicate}
use Rattle.std.specs.Option.{option_map}
use Rattle.kinds.specs.Two.{two, two_means}
use Rattle.kinds.specs.declared.two.Two.{Two}
use Rattle.kinds.specs.declared.two.Two.TheVariants.{No}
use Rattle.program.specs.declared.program.Program.{Program}
use Rattle.watching.specs.Calls.{Made}
use Rattle.watching.specs.Faults.{max_limit}
use Rattle.watching.specs.Memory.{Own, plain_cells, routine_cells, node_count, short_list}
use Rattle.watching.specs.Refusals.{making_refusal}
use Rattle.watching.specs.declared.LentList.{LentList}
use Rattle.watching.specs.declared.LentList.TheVariants.{Plain, Routine, Stack, Opened, Working}
use Rattle.watching.specs.declared.Nesting.{Nesting}
use Rattle.watching.specs.declared.OpenRoutine.{OpenRoutine}
use Rattle.watching.specs.declared.WatchFault.{WatchFault}
use Rattle.watching.specs.declared.WatchFault.TheVariants.{LimitTooHigh, ListTooShort}
use Rattle.promise.specs.ShutOut.{MakingRefusedWithoutCause, MakingRefusesAll}

module _ (p : Program) (d : ℕ) (o : Own Two) (w : List Two) (low : d ≤ max_limit) where
  no_cause : short_list p d o (length w) ≡ None → making_refusal p d o (length w) ≡ None
  no_cause enough = ap (λ b. cond b (Some LimitTooHigh) (option_map ListTooShort (short_list p d o (length w)))) (le-ltb max_limit d low) ∙ ap (option_map ListTooShort) enough

  made : (a : Result Nesting WatchFault) (o' : Own Two) (w' : List Two) → Made two two_means p d o w a o' w' → short_list p d o (length w) ≡ None → is_err a ≡ true → ⊥
  made (Ok n) o' w' m enough e = let z : ◌≡◌ {A = ℕ} 0 1 = cc in omega arith
  made (Err g) o' w' m enough e = none-some _ (sym (sym m.0 ∙ no_cause enough))

pub making_refused_without_cause : MakingRefusedWithoutCause
making_refused_without_cause m makes p d o w low enough e =
    let a = makes p d o w in
    made p d o w low (m p d o w) a.0 a.1 a.2 enough e

-- what list 4 may hold at first
abbrev closed : OpenRoutine
closed = record { routine = 0; call = 0 }

-- just as much memory as the program wants under the limit
module _ (p : Program) (d : ℕ) where
  abbrev lists : Own Two
  lists = record {
    plain = replicate (plain_cells p) No;
    routine = replicate (routine_cells p) No;
    stack = replicate (routine_cells p * d) No;
    opened = replicate d closed;
  }

  abbrev working : List Two
  working = replicate (node_count p) No

long : {X : Type 0} (n : ℕ) (x : X) → ltb (length (replicate n x)) n ≡ false
long n x = le-ltb (length (replicate n x)) n (omega (arith, length-replicate n x))

goes_by : {b : Bool} (x : LentList) {y : Option LentList} → b ≡ false → y ≡ None → cond b (Some x) y ≡ None
goes_by x {y} q r = ap (λ c. cond c (Some x) y) q ∙ r

enough : (p : Program) (d : ℕ) → short_list p d (lists p d) (length (working p d)) ≡ None
enough p d = goes_by Plain (long (plain_cells p) No) (goes_by Routine (long (routine_cells p) No) (goes_by Stack (long (routine_cells p * d) No) (goes_by Opened (long d closed) (goes_by Working (long (node_count p) No) refl))))

pub making_refuses_all : MakingRefusesAll
making_refuses_all m makes p d low refuses = making_refused_without_cause m makes p d (lists p d) (working p d) low (enough p d) (refuses (lists p d) (working p d))
