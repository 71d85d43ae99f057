-- The fresh cells, one after another.
use Rattle.std.proofs.Common.{◌≡◌, ℕ, suc, ◌+◌, ◌<◌, ◌≤◌, Bool, cond, List, [], ◌∷◌, ◌++◌, map, length, get_or, take, drop, Some, None, Option, sym, refl, ap, ◌∙◌, ap₂, append_assoc, append-nil, arith, length-append, length-take, le-ltb}
use Rattle.std.specs.Option.{option_map}
use Rattle.program.specs.Programs.{steps}
use Rattle.program.specs.declared.program.Program.{Program}
use Rattle.watching.specs.Faults.{max_limit}
use Rattle.watching.specs.Memory.{Own, plain_cells, routine_cells, short_list}
use Rattle.watching.specs.Refusals.{making_refusal}
use Rattle.watching.specs.declared.LentList.{LentList}
use Rattle.watching.specs.declared.WatchFault.TheVariants.{LimitTooHigh, ListTooShort}
use lib.ListN.{length-map}
use Rattle.std.proofs.lemmas.List.{at_drop_more, at_drop_all}
use Rattle.kinds.specs.Algebra.{Algebra}
use Rattle.history.specs.Value.{truth}
use Rattle.evaluation.specs.declared.Step.{Step}
use Rattle.evaluation.specs.declared.Step.TheVariants.{True, False, Kind, Predicate, Routine, Not, And, Or, Implies, Before, Rbefore, Once, Ronce, Always, Ralways, Since, Rsince, Rise, Fall}
use Rattle.evaluation.specs.Plan.{Cell, none, plain, routine, cell_of, if_plain, if_routine}
use Rattle.evaluation.specs.Steps.{fresh, fresh_of, source, sources}
use Rattle.evaluation.proofs.Running.{fresh_append}
use Rattle.monitor.specs.Sides.{pick, starts_true}
use Rattle.monitor.specs.declared.fresh.Side.{Side}

module _ (A : Algebra) where
  starts : (s : Step) → truth A (starts_true s) ≡ fresh A s
  starts True = refl
  starts False = refl
  starts (Kind k) = refl
  starts (Predicate n) = refl
  starts (Routine n) = refl
  starts Not = refl
  starts (And l) = refl
  starts (Or l) = refl
  starts (Implies l) = refl
  starts (Before c) = refl
  starts (Rbefore c) = refl
  starts (Once c) = refl
  starts (Ronce c) = refl
  starts (Always c) = refl
  starts (Ralways c) = refl
  starts (Since l c) = refl
  starts (Rsince l c) = refl
  starts (Rise c) = refl
  starts (Fall c) = refl

  picks : (side : Side) (c : Cell) (b : Bool) → map (truth A) (pick side c b) ≡ pick side c (truth A b)
  picks Side.Plain none b = refl
  picks Side.Plain (plain c) b = refl
  picks Side.Plain (routine c) b = refl
  picks Side.Routine none b = refl
  picks Side.Routine (plain c) b = refl
  picks Side.Routine (routine c) b = refl

  -- the fresh cell of one step, from the test that is known of it
  pub one_fresh : (side : Side) (s : Step) (bs : List Bool) → bs ≡ pick side (cell_of s) (starts_true s) → map (truth A) bs ≡ fresh_of A (pick side) (s ∷ [])
  unfolding fresh_of
  one_fresh side s bs e = ap (map (truth A)) e ∙ (picks side (cell_of s) (starts_true s) ∙ (ap (pick side (cell_of s)) (starts s) ∙ sym (append-nil (pick side (cell_of s) (fresh A s)))))

  module _ {K : Type 0} (means : K → A.Val) (side : Side) where
    -- the loop's turn: the cells of the steps so far, and of those left
    pub turn : (ss : List Step) (i : ℕ) (d : Step) (xs ys : List A.Val) → i < length ss → ys ≡ xs ++ fresh_of A (pick side) (get_or ss i d ∷ []) → xs ++ fresh_of A (pick side) (drop i ss) ≡ fresh_of A (pick side) ss → ys ++ fresh_of A (pick side) (drop (i + 1) ss) ≡ fresh_of A (pick side) ss
    turn ss i d xs ys h new before =
        let s = get_or ss i d in
        let rest = drop (i + 1) ss in
        let here : fresh_of A (pick side) (drop i ss) ≡ fresh_of A (pick side) (s ∷ []) ++ fresh_of A (pick side) rest = at_drop_more (fresh_of A (pick side)) ss i d h ∙ fresh_append A (pick side) (s ∷ []) rest in
        ap (λ l. l ++ fresh_of A (pick side) rest) new ∙ (append_assoc xs (fresh_of A (pick side) (s ∷ [])) (fresh_of A (pick side) rest) ∙ (ap (λ l. xs ++ l) (sym here) ∙ before))

    pub none_left : (ss : List Step) (i : ℕ) (xs : List A.Val) → length ss ≤ i → xs ++ fresh_of A (pick side) (drop i ss) ≡ fresh_of A (pick side) ss → xs ≡ fresh_of A (pick side) ss
    unfolding fresh_of
    none_left ss i xs h before = sym (append-nil xs) ∙ (sym (at_drop_all (λ l. xs ++ fresh_of A (pick side) l) ss i h) ∙ before)

    -- there is room for the next cell
    pub room_here : (ss : List Step) (i : ℕ) (d : Step) (cells : List K) (end : ℕ) → i < length ss → end ≤ length cells → map means (take end cells) ++ fresh_of A (pick side) (drop i ss) ≡ fresh_of A (pick side) ss → end + length (fresh_of A (pick side) (get_or ss i d ∷ [])) ≤ length (fresh_of A (pick side) ss)
    room_here ss i d cells end h within before =
        let s = get_or ss i d in
        let rest = drop (i + 1) ss in
        let here : fresh_of A (pick side) (drop i ss) ≡ fresh_of A (pick side) (s ∷ []) ++ fresh_of A (pick side) rest = at_drop_more (fresh_of A (pick side)) ss i d h ∙ fresh_append A (pick side) (s ∷ []) rest in
        let all = ap length (sym before ∙ ap (λ l. map means (take end cells) ++ l) here) in
        omega (arith, all, length-append (map means (take end cells)) (fresh_of A (pick side) (s ∷ []) ++ fresh_of A (pick side) rest), length-append (fresh_of A (pick side) (s ∷ [])) (fresh_of A (pick side) rest), length-map (take end cells) means, length-take end cells)

    pub written_long : (xs : List A.Val) (cells : List K) (end : ℕ) → end ≤ length cells → map means (take end cells) ≡ xs → end ≡ length xs
    written_long xs cells end within e = omega (arith, ap length e, length-map (take end cells) means, length-take end cells)

-- a side has as many fresh cells as it keeps values
many : {X Y : Type 0} (side : Side) (c : Cell) (x : X) (y : Y) → length (pick side c x) ≡ length (pick side c y)
many Side.Plain none x y = refl
many Side.Plain (plain c) x y = refl
many Side.Plain (routine c) x y = refl
many Side.Routine none x y = refl
many Side.Routine (plain c) x y = refl
many Side.Routine (routine c) x y = refl

pub fresh_many : (A : Algebra) (side : Side) (ss : List Step) (i : ℕ) → length (fresh_of A (pick side) ss) ≡ length (sources (pick side) i ss)
unfolding fresh_of sources
fresh_many A side [] i = refl
fresh_many A side (s ∷ ss) i = length-append (pick side (cell_of s) (fresh A s)) (fresh_of A (pick side) ss) ∙ (ap₂ ◌+◌ (many side (cell_of s) (fresh A s) (source s i)) (fresh_many A side ss (suc i)) ∙ sym (length-append (pick side (cell_of s) (source s i)) (sources (pick side) (suc i) ss)))

pub plain_many : (A : Algebra) (p : Program) (ss : List Step) → ss ≡ steps p → length (fresh_of A if_plain ss) ≡ plain_cells p
plain_many A p ss e = ap (λ l. length (fresh_of A if_plain l)) e ∙ (fresh_many A Side.Plain (steps p) 0 ∙ ap length (sym p.parts.all_plain))

pub routine_many : (A : Algebra) (p : Program) (ss : List Step) → ss ≡ steps p → length (fresh_of A if_routine ss) ≡ routine_cells p
routine_many A p ss e = ap (λ l. length (fresh_of A if_routine l)) e ∙ (fresh_many A Side.Routine (steps p) 0 ∙ ap length (sym p.parts.all_routine))

-- a making whose limit and lists are enough is not refused
pub not_refused : {V : Type 0} (p : Program) (d : ℕ) (o : Own V) (w : ℕ) → d ≤ max_limit → None ≡ short_list p d o w → making_refusal p d o w ≡ None
not_refused p d o w h e = ap₂ (λ b (x : Option LentList). cond b (Some LimitTooHigh) (option_map ListTooShort x)) (le-ltb max_limit d h) (sym e)
