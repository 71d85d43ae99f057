-- Two watchers of one rule and depth limit, whose readings are carried from the kind of the first into that of the second.
--   SameGiven x y      the second was given the event of the first, with its reading carried
--   Enough x           the memory was enough: no list was too short
--   SameAnswer a b     the answer b is the answer a carried: the same refusal, or the same number and the value carried
--   Alike x y          both were given the same and had memory enough
--   AllAlike, AllSame  for runs of the two: so at each of their events
--   CarriesOver        in two such runs, every answer is the same
use Rattle.std.specs.Prelude.{◌≡◌, ℕ, List, [], ◌∷◌, map, Ok, Err, ◌≢◌}
use Rattle.grammar.specs.Grammar.{Tree}
use Rattle.kinds.specs.Algebra.{Algebra}
use Rattle.maps.specs.Carries.{Carries}
use Rattle.reader.specs.Rules.{TreeOf}
use Rattle.program.specs.declared.program.Program.{Program}
use Rattle.watching.specs.Memory.{Own}
use Rattle.watching.specs.declared.LentList.{LentList}
use Rattle.watching.specs.declared.Nesting.{Nesting}
use Rattle.watching.specs.declared.WatchFault.TheVariants.{ListTooShort}
use Rattle.runs.specs.Runs.{Answer, Exchange, Run}

abbrev pub Enough : {K : Type 0} → Exchange K → Type 0
Enough x = (l : LentList) → x.answer ≢ Err (ListTooShort l)

-- c carries values; q says what a value of the second kind means
module _ (B : Algebra) {K L : Type 0} (q : L → B.Val) (c : K → L) where
  pub record SameGiven (x : Exchange K) (y : Exchange L) : Type 0 where
    pub event : y.event ≡ x.event
    pub reading : map q y.reading ≡ map (λ v. q (c v)) x.reading

  abbrev pub SameAnswer : Answer K → Answer L → Type 0
  SameAnswer (Ok v) (Ok u) = (u.number ≡ v.number) × (q u.value ≡ q (c v.value))
  SameAnswer (Ok v) (Err g) = ⊥
  SameAnswer (Err f) (Ok u) = ⊥
  SameAnswer (Err f) (Err g) = g ≡ f

  pub record Alike (x : Exchange K) (y : Exchange L) : Type 0 where
    pub given : SameGiven x y
    pub enough : Enough x
    pub enough_carried : Enough y

  abbrev pub AllAlike : List (Exchange K) → List (Exchange L) → Type 0
  AllAlike [] [] = Unit {0}
  AllAlike [] (y ∷ ys) = ⊥
  AllAlike (x ∷ xs) [] = ⊥
  AllAlike (x ∷ xs) (y ∷ ys) = Alike x y × AllAlike xs ys

  abbrev pub AllSame : List (Exchange K) → List (Exchange L) → Type 0
  AllSame [] [] = Unit {0}
  AllSame [] (y ∷ ys) = ⊥
  AllSame (x ∷ xs) [] = ⊥
  AllSame (x ∷ xs) (y ∷ ys) = SameAnswer x.answer y.answer × AllSame xs ys

module _ (A B : Algebra) {K L : Type 0} (p : K → A.Val) (q : L → B.Val) where
  abbrev pub CarriesOver : Type 0
  CarriesOver = (c : K → L) → Carries A B p q c → (program twin : Program) → twin.rule ≡ program.rule → (t : Tree) → TreeOf program.rule t → (d : ℕ) (n m : Nesting) (o : Own K) (u : Own L) (xs : List (Exchange K)) (ys : List (Exchange L)) → Run A p program d xs n o → Run B q twin d ys m u → AllAlike B q c xs ys → AllSame B q c xs ys
