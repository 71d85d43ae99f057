-- What one node more makes of a program's parts.
--   Keeps p q p' q' k   the numbers p and q of plain and of routine cells, with that of k behind them, are p' and q'
use Rattle.std.proofs.Common.{◌≡◌, ℕ, ◌+◌, ◌<◌, ◌≤◌, max, List, [], ◌∷◌, ◌++◌, length, Ok, Err, Option, Result, sym, refl, ap, ◌∙◌, ap₂, zero-add, append_assoc, append-nil, arith, length-append}
use Rattle.std.specs.Result.{MatchResult}
use Rattle.grammar.specs.declared.Node.{Node}
use Rattle.evaluation.specs.declared.Step.{Step}
use Rattle.evaluation.specs.Plan.{Cell, none, plain, routine, cell_of, if_plain, if_routine}
use Rattle.evaluation.specs.Steps.{source, sources}
use Rattle.program.specs.Planned.{asked, asked_by, node_step, planned, plains, routines}
use Rattle.program.specs.Parts.{in_plain, in_routine}
use Rattle.program.specs.declared.making.Kept.{Kept}
use Rattle.program.proofs.Sources.{sources_append, sources_one, asked_append, asked_one}

pub record Keeps (p q p' q' : List ℕ) (kept : Option Kept) : Type 0 where
  pub plain : p' ≡ p ++ in_plain kept
  pub routine : q' ≡ q ++ in_routine kept

pub none_more : (p : List ℕ) {p' xs : List ℕ} → p' ≡ p → xs ≡ [] → p' ≡ p ++ xs
none_more p e z = e ∙ (sym (append-nil p) ∙ ap (λ l. p ++ l) (sym z))

-- what a push behind xs, of which there are fewer than n, gives where it succeeds
pub put_in : {E : Type 0} (xs : List E) (n : ℕ) (y : E) (P R : Type 0) (r : Result (Unit {0}) E) → MatchResult r (λ _. P) (λ x. (x ≡ y) × (length xs ≡ n) × R) → length xs < n → P
put_in xs n y P R (Ok x) h l = h
put_in xs n y P R (Err x) h l = absurd (omega (arith, h.1))

pub one_more : (p m : List ℕ) (k : ℕ) {p' xs : List ℕ} → p' ≡ m → m ≡ p ++ k ∷ [] → xs ≡ k ∷ [] → p' ≡ p ++ xs
one_more p m k e pushed z = e ∙ (pushed ∙ ap (λ l. p ++ l) (sym z))

-- a step has one cell at most
one_cell : (c : Cell) (k : ℕ) → length (if_plain c k) + length (if_routine c k) ≤ 1
one_cell none k = omega arith
one_cell (plain n) k = omega arith
one_cell (routine n) k = omega arith

-- how many cells there are does not depend on what they keep
pub plain_many : {X Y : Type 0} (c : Cell) (x : X) (y : Y) → length (if_plain c x) ≡ length (if_plain c y)
plain_many none x y = refl
plain_many (plain n) x y = refl
plain_many (routine n) x y = refl

pub routine_many : {X Y : Type 0} (c : Cell) (x : X) (y : Y) → length (if_routine c x) ≡ length (if_routine c y)
routine_many none x y = refl
routine_many (plain n) x y = refl
routine_many (routine n) x y = refl

-- the steps ss with the step s behind them are the steps ss'
module _ (ss ss' : List Step) (s : Step) (pushed : ss' ≡ ss ++ s ∷ []) where
  pub pushed_length : length ss' ≡ length ss + 1
  pushed_length = ap length pushed ∙ length-append ss (s ∷ [])

  pub pushed_sources : (pick : Cell → ℕ → List ℕ) (p p' xs : List ℕ) → p ≡ sources pick 0 ss → p' ≡ p ++ xs → xs ≡ pick (cell_of s) (source s (length ss)) → p' ≡ sources pick 0 ss'
  pushed_sources pick p p' xs e g z =
      let last : sources pick (0 + length ss) (s ∷ []) ≡ xs = ap (λ i. sources pick i (s ∷ [])) (zero-add (length ss)) ∙ (sources_one pick (length ss) s ∙ sym z) in
      g ∙ (ap₂ ◌++◌ e (sym last) ∙ (sym (sources_append pick 0 ss (s ∷ [])) ∙ ap (sources pick 0) (sym pushed)))

  pub pushed_asked : (n m : ℕ) → n ≡ asked ss → m ≡ max n (asked_by s) → m ≡ asked ss'
  pushed_asked n m e f = omega (arith, asked_append ss (s ∷ []), asked_one s, ap asked pushed)

  module _ (p q p' q' : List ℕ) (kept : Option Kept) (K : Keeps p q p' q' kept) (k : ℕ) (kp : in_plain kept ≡ if_plain (cell_of s) k) (kr : in_routine kept ≡ if_routine (cell_of s) k) where
    plain_length : length p' ≡ length p + length (if_plain (cell_of s) k)
    plain_length = ap length K.plain ∙ (length-append p (in_plain kept) ∙ ap (λ l. length p + length l) kp)

    routine_length : length q' ≡ length q + length (if_routine (cell_of s) k)
    routine_length = ap length K.routine ∙ (length-append q (in_routine kept) ∙ ap (λ l. length q + length l) kr)

    pub pushed_few : length p + length q ≤ length ss → length p' + length q' ≤ length ss'
    pushed_few h = omega (arith, pushed_length, one_cell (cell_of s) k, plain_length, routine_length)

    -- the steps of any nodes behind the one that is put in
    pub pushed_nodes : (n : Node) (ns : List Node) → s ≡ node_step n (length p) (length q) → ss' ++ planned (length p') (length q') ns ≡ ss ++ planned (length p) (length q) (n ∷ ns)
    unfolding planned
    pushed_nodes n ns e =
        let a : length p' ≡ length p + plains s = plain_length ∙ ap (λ i. length p + i) (plain_many (cell_of s) k s) in
        let b : length q' ≡ length q + routines s = routine_length ∙ ap (λ i. length q + i) (routine_many (cell_of s) k s) in
        ap₂ (λ x y. ss' ++ planned x y ns) a b
        ∙ (ap (λ l. l ++ planned (length p + plains s) (length q + routines s) ns) pushed
        ∙ (append_assoc ss (s ∷ []) (planned (length p + plains s) (length q + routines s) ns)
        ∙ ap (λ x. ss ++ x ∷ planned (length p + plains x) (length q + routines x) ns) e))
