-- What a program's parts come to, for those who run one.
--   runs, by_tree               the program runs its rule's tree; what holds wherever it runs a tree holds
--   sound, sound_at             its steps stand in order, each one of them
--   plain_below, routine_below  its cells keep the values of its steps
--   plain_few, routine_few, steps_few, steps_some  how many cells and steps it has
--   predicates_all              how many predicates a reading must have
--   plain_count, routine_count  a rule's cells, by steps and by trees
use Rattle.std.proofs.Common.{◌≡◌, ℕ, zero, suc, ◌+◌, ◌-◌, ◌<◌, ◌≤◌, true, false, cond, ◌↔◌, List, [], ◌∷◌, ◌++◌, length, get_or, sym, refl, ap, ◌∙◌, subst, append-nil, add-zero, arith, length-take}
use mathlib.Core.HLevel.{Unit-prop, ×_prop}
use mathlib.Core.Logic.{∥∥₁_elim}
use native.Mathlib.Bridge.{le_prop}
use base.Stored.{Coded-set, coded_list}
use Rattle.words.specs.declared.Operator.{Operator}
use Rattle.words.specs.declared.Operator.TheVariants.{And, Or, Implies, Since, Rsince, Not, Before, Rbefore, Once, Ronce, Always, Ralways, Rise, Fall, True, False, Step, Call, Begin, End, Return, Predicate, Routine}
use Rattle.fixed_vec.specs.Elements.{elements}
use Rattle.fixed_vec.specs.declared.vec.FixedVec.{FixedVec}
use Rattle.grammar.specs.Grammar.{Tree, leaf, one, two}
use Rattle.grammar.specs.Nodes.{nodes}
use Rattle.reader.specs.Rules.{TreeOf, nodes_in}
use Rattle.evaluation.specs.contracts.Step.{the_row}
use Rattle.evaluation.specs.declared.Step.{Step as RuleStep}
use Rattle.evaluation.specs.Plan.{Cell, none, plain, routine, cell_of, if_plain, if_routine, plain_cells, routine_cells, rule_plan}
use Rattle.evaluation.specs.Steps.{keeps_operand, source, sources}
use Rattle.evaluation.proofs.Orders.{plan_length}
use Rattle.program.specs.Planned.{planned, asked}
use Rattle.program.specs.Programs.{steps, plain_numbers, routine_numbers, predicates_of, predicates, HasAll, Runs, Fits, Sound}
use Rattle.program.specs.declared.program.Program.{Program}
use Rattle.program.proofs.Plans.{reads_counted, planned_plan, plan_sound, plan_asked, plain_sources, routine_sources, size_some}

pub plain_count : (t : Tree) → length (sources if_plain 0 (rule_plan t)) ≡ plain_cells t
plain_count t = plain_sources t 0 0 0 0

pub routine_count : (t : Tree) → length (sources if_routine 0 (rule_plan t)) ≡ routine_cells t
routine_count t = routine_sources t 0 0 0 0

-- a leaf with a predicate that is there asks for no more than there is
leaf_all : (o : Operator) (m n : ℕ) → (o ≡ Predicate → m < n) → predicates_of o m ≤ n
leaf_all And m n h = omega arith
leaf_all Or m n h = omega arith
leaf_all Implies m n h = omega arith
leaf_all Since m n h = omega arith
leaf_all Rsince m n h = omega arith
leaf_all Not m n h = omega arith
leaf_all Before m n h = omega arith
leaf_all Rbefore m n h = omega arith
leaf_all Once m n h = omega arith
leaf_all Ronce m n h = omega arith
leaf_all Always m n h = omega arith
leaf_all Ralways m n h = omega arith
leaf_all Rise m n h = omega arith
leaf_all Fall m n h = omega arith
leaf_all True m n h = omega arith
leaf_all False m n h = omega arith
leaf_all Step m n h = omega arith
leaf_all Call m n h = omega arith
leaf_all Begin m n h = omega arith
leaf_all End m n h = omega arith
leaf_all Return m n h = omega arith
leaf_all Predicate m n h = omega (arith, h refl)
leaf_all Routine m n h = omega arith

all_has : (n : ℕ) (t : Tree) → predicates t ≤ n → HasAll n t
all_has n (leaf w) h = λ e. omega (arith, ap (λ o. predicates_of o w.number) e)
all_has n (one w t) h = all_has n t h
all_has n (two w l r) h = (all_has n l (omega arith), all_has n r (omega arith))

has_all : (n : ℕ) (t : Tree) → HasAll n t → predicates t ≤ n
has_all n (leaf w) h = leaf_all w.operator w.number n h
has_all n (one w t) h = has_all n t h
has_all n (two w l r) h = omega (arith, has_all n l h.0, has_all n r h.1)

pub predicates_all : (n : ℕ) (t : Tree) → predicates t ≤ n ↔ HasAll n t
predicates_all n t = (all_has n t, has_all n t)

module _ (p : Program) where
  -- the steps of the nodes, out of the truncation: lists of steps are a set
  all_steps : steps p ≡ planned 0 0 (nodes_in p.rule)
  all_steps = ∥∥₁_elim p.all_steps (Coded-set (coded_list the_row.coded) _ _) (λ x. x)

  module _ (t : Tree) (x : TreeOf p.rule t) where
    tree_steps : steps p ≡ rule_plan t
    unfolding planned
    tree_steps =
        all_steps ∙ (ap (planned 0 0) (x.nodes ∙ sym (append-nil (nodes 0 t))) ∙ (planned_plan t 0 0 0 [] (reads_counted x.accepted.reads) ∙ append-nil (rule_plan t)))

    runs_it : Runs p t
    runs_it = record {
      steps = tree_steps;
      plain = p.parts.all_plain ∙ ap (sources if_plain 0) tree_steps;
      routine = p.parts.all_routine ∙ ap (sources if_routine 0) tree_steps;
      predicates = p.parts.all_predicates ∙ (ap asked tree_steps ∙ plan_asked t 0 0 0);
    }

pub runs : (p : Program) (t : Tree) → TreeOf p.rule t → Runs p t
runs p t x = runs_it p t x

-- a program runs some tree, so what follows from that holds
pub by_tree : (p : Program) {P : Type 0} → IsProp P → ((t : Tree) → Runs p t → P) → P
by_tree p prop f = ∥∥₁_elim p.rule.accepted prop (λ x. f x.1 (runs p x.1 (record { text = x.0; accepted = x.2; nodes = x.3 })))

fits_prop : (s : RuleStep) (i a b : ℕ) → IsProp (Fits s i a b)
fits_prop RuleStep.True i a b = Unit-prop
fits_prop RuleStep.False i a b = Unit-prop
fits_prop (RuleStep.Kind k) i a b = Unit-prop
fits_prop (RuleStep.Predicate n) i a b = Unit-prop
fits_prop (RuleStep.Routine n) i a b = Unit-prop
fits_prop RuleStep.Not i a b = le_prop
fits_prop (RuleStep.And l) i a b = le_prop
fits_prop (RuleStep.Or l) i a b = le_prop
fits_prop (RuleStep.Implies l) i a b = le_prop
fits_prop (RuleStep.Before c) i a b = ×_prop le_prop le_prop
fits_prop (RuleStep.Rbefore c) i a b = ×_prop le_prop le_prop
fits_prop (RuleStep.Once c) i a b = ×_prop le_prop le_prop
fits_prop (RuleStep.Ronce c) i a b = ×_prop le_prop le_prop
fits_prop (RuleStep.Always c) i a b = ×_prop le_prop le_prop
fits_prop (RuleStep.Ralways c) i a b = ×_prop le_prop le_prop
fits_prop (RuleStep.Since l c) i a b = ×_prop le_prop le_prop
fits_prop (RuleStep.Rsince l c) i a b = ×_prop le_prop le_prop
fits_prop (RuleStep.Rise c) i a b = ×_prop le_prop le_prop
fits_prop (RuleStep.Fall c) i a b = ×_prop le_prop le_prop

sound_prop : (ss : List RuleStep) (i a b : ℕ) → IsProp (Sound i a b ss)
unfolding Sound
sound_prop [] i a b = Unit-prop
sound_prop (s ∷ ss) i a b = ×_prop (fits_prop s i a b) (sound_prop ss (suc i) a b)

pub sound : (p : Program) → Sound 0 (length (plain_numbers p)) (length (routine_numbers p)) (steps p)
sound p =
    let A = length (plain_numbers p) in
    let B = length (routine_numbers p) in
    by_tree p (sound_prop (steps p) 0 A B) λ t r.
    subst (Sound 0 A B) (sym r.steps) (plan_sound t 0 0 0 A B (omega (arith, ap length r.plain, plain_count t)) (omega (arith, ap length r.routine, routine_count t)))

pub sound_at : (i a b : ℕ) (ss : List RuleStep) (k : ℕ) (d : RuleStep) → Sound i a b ss → k < length ss → Fits (get_or ss k d) (i + k) a b
unfolding Sound
sound_at i a b [] k d S h = absurd (omega arith)
sound_at i a b (s ∷ ss) zero d S h = rw add-zero S.0
sound_at i a b (s ∷ ss) (suc k) d S h =
    let P : ℕ → Type 0 = λ m. Fits (get_or ss k d) m a b in
    let e : suc i + k ≡ i + suc k = omega arith in
    subst P e (sound_at (suc i) a b ss k d S.1 (omega arith))

pub steps_some : (p : Program) → 0 < length (steps p)
steps_some p = by_tree p le_prop (λ t r. omega (arith, ap length r.steps, plan_length 0 0 0 t, size_some t))

elements_few : {T : Type 0} (v : FixedVec T 64) → length (elements v) ≤ 64
elements_few v = omega (arith, length-take v.len v.items, v.within)

pub steps_few : (p : Program) → length (steps p) ≤ 64
steps_few p = elements_few p.parts.steps

pub plain_few : (p : Program) → length (plain_numbers p) ≤ 64
plain_few p = elements_few p.parts.plain

pub routine_few : (p : Program) → length (routine_numbers p) ≤ 64
routine_few p = elements_few p.parts.routine

-- a cell keeps the value of its own step or of the one before
source_most : (s : RuleStep) (i : ℕ) → source s i ≤ i
source_most s i = elim (keeps_operand s) as (λ b. cond b (i - 1) i ≤ i) [ true ↦ omega arith | false ↦ omega arith ]

-- the numbers of the steps whose values are kept, for cells that are picked one by one
module _ (pick : Cell → ℕ → List ℕ) (picks : (c : Cell) (x : ℕ) (us : List ℕ) (m d k : ℕ) → x < m → k < length (pick c x ++ us) → ((j : ℕ) → j < length us → get_or us j d < m) → get_or (pick c x ++ us) k d < m) where
  sources_below : (i : ℕ) (ss : List RuleStep) (m k d : ℕ) → i + length ss ≤ m → k < length (sources pick i ss) → get_or (sources pick i ss) k d < m
  unfolding sources
  sources_below i [] m k d e h = absurd (omega arith)
  sources_below i (s ∷ ss) m k d e h = picks (cell_of s) (source s i) (sources pick (suc i) ss) m d k (omega (arith, source_most s i)) h (λ j g. sources_below (suc i) ss m j d (omega arith) g)

one_below : (x : ℕ) (us : List ℕ) (m d k : ℕ) → x < m → k < length (x ∷ us) → ((j : ℕ) → j < length us → get_or us j d < m) → get_or (x ∷ us) k d < m
one_below x us m d zero l h f = l
one_below x us m d (suc k) l h f = f k (omega arith)

picks_plain : (c : Cell) (x : ℕ) (us : List ℕ) (m d k : ℕ) → x < m → k < length (if_plain c x ++ us) → ((j : ℕ) → j < length us → get_or us j d < m) → get_or (if_plain c x ++ us) k d < m
picks_plain none x us m d k l h f = f k h
picks_plain (plain n) x us m d k l h f = one_below x us m d k l h f
picks_plain (routine n) x us m d k l h f = f k h

picks_routine : (c : Cell) (x : ℕ) (us : List ℕ) (m d k : ℕ) → x < m → k < length (if_routine c x ++ us) → ((j : ℕ) → j < length us → get_or us j d < m) → get_or (if_routine c x ++ us) k d < m
picks_routine none x us m d k l h f = f k h
picks_routine (plain n) x us m d k l h f = f k h
picks_routine (routine n) x us m d k l h f = one_below x us m d k l h f

pub plain_below : (p : Program) (k d : ℕ) → k < length (plain_numbers p) → get_or (plain_numbers p) k d < length (steps p)
plain_below p k d h =
    let P : List ℕ → Type 0 = λ l. k < length l → get_or l k d < length (steps p) in
    subst P (sym p.parts.all_plain) (sources_below if_plain picks_plain 0 (steps p) (length (steps p)) k d (omega arith)) h

pub routine_below : (p : Program) (k d : ℕ) → k < length (routine_numbers p) → get_or (routine_numbers p) k d < length (steps p)
routine_below p k d h =
    let P : List ℕ → Type 0 = λ l. k < length l → get_or l k d < length (steps p) in
    subst P (sym p.parts.all_routine) (sources_below if_routine picks_routine 0 (steps p) (length (steps p)) k d (omega arith)) h
