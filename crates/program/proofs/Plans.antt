-- A rule's nodes, one after another, give its steps; and these stand in order.
--   Counted t       each word takes as many units as it has operands
--   Like a b c k    the two cells are of one sort, and the first has the number a where it is plain, b where it is routine
--   Made, FormMade  what the step of a word has
--   planned_plan    the steps of a tree's nodes, and of others behind them
--   plan_sound, plan_asked, plain_sources, routine_sources  what a tree's steps read, ask for and keep
use Rattle.std.proofs.Common.{◌≡◌, ℕ, suc, ◌+◌, ◌-◌, ◌<◌, ◌≤◌, List, [], ◌∷◌, ◌++◌, length, sym, refl, ap, ◌∙◌, subst, ap₂, append_assoc, arith, length-append}
use Rattle.words.specs.Words.{operands}
use Rattle.words.specs.declared.Word.{Word}
use Rattle.words.specs.declared.Operands.{Operands}
use Rattle.words.specs.declared.Operands.TheVariants.{Zero, One, Two}
use Rattle.words.specs.declared.Operator.{Operator}
use Rattle.words.specs.declared.Operator.TheVariants.{And, Or, Implies, Since, Rsince, Not, Before, Rbefore, Once, Ronce, Always, Ralways, Rise, Fall, True, False, Step, Call, Begin, End, Return, Predicate, Routine}
use Rattle.grammar.specs.Grammar.{Tree, leaf, one, two, takes, Part, Reads, a_leaf, one_sided, in_parens, a_unit, two_sided}
use Rattle.grammar.specs.Nodes.{size, node, nodes}
use Rattle.grammar.specs.declared.Node.{Node}
use Rattle.grammar.specs.declared.Token.{Token}
use Rattle.evaluation.specs.declared.Step.{Step as RuleStep}
use Rattle.evaluation.specs.Plan.{Cell, none, plain, routine, cell_of, if_plain, if_routine, Form, from_number, from_one, from_two, form, step_of_none, step_of_one, step_of_two, own, step_of, in_order, plain_cells, routine_cells, plan}
use Rattle.evaluation.specs.Steps.{source, sources}
use Rattle.evaluation.proofs.Orders.{plan_length}
use Rattle.program.specs.Planned.{step_from, node_step, plains, routines, planned, asked_by, asked}
use Rattle.program.specs.Programs.{predicates_of, predicates, Fits, Sound}
use Rattle.program.proofs.Sources.{sources_append, sources_one, asked_append, asked_one}

abbrev pub Counted : Tree → Type 0
Counted (leaf w) = takes w ≡ Zero
Counted (one w t) = (takes w ≡ One) × Counted t
Counted (two w l r) = (takes w ≡ Two) × Counted l × Counted r

pub reads_counted : {ok : ℕ → Type 0} {d : ℕ} {p : Part} {ts : List Token} {t : Tree} → Reads ok d p ts t → Counted t
reads_counted (a_leaf e) = e
reads_counted (one_sided e o r) = (e, reads_counted r)
reads_counted (in_parens o r) = reads_counted r
reads_counted (a_unit r) = reads_counted r
reads_counted (two_sided e l r) = (e, reads_counted l, reads_counted r)

data Like (a b : ℕ) : Cell → Cell → Type 0 where
  no_cells : Like a b none none
  plain_cells_lem : {k : ℕ} → Like a b (plain a) (plain k)
  routine_cells_lem : {k : ℕ} → Like a b (routine b) (routine k)

like_plain : {a b : ℕ} {c k : Cell} {X Y : Type 0} → Like a b c k → (x : X) (y : Y) → length (if_plain c x) ≡ length (if_plain k y)
like_plain no_cells x y = refl
like_plain plain_cells_lem x y = refl
like_plain routine_cells_lem x y = refl

like_routine : {a b : ℕ} {c k : Cell} {X Y : Type 0} → Like a b c k → (x : X) (y : Y) → length (if_routine c x) ≡ length (if_routine k y)
like_routine no_cells x y = refl
like_routine plain_cells_lem x y = refl
like_routine routine_cells_lem x y = refl

-- a step with the cells a and b: its cell is like its pattern's; it fits where its operands are behind it; it asks for n predicates
record Made (Behind : ℕ → Type 0) (s pattern : RuleStep) (a b n : ℕ) : Type 0 where
  like : Like a b (cell_of s) (cell_of pattern)
  fits : (i A B : ℕ) → Behind i → a + plains s ≤ A → b + routines s ≤ B → Fits s i A B
  asks : asked_by s ≡ n

-- the form of a word that takes so many units and asks for so many predicates
data FormMade : Operands → (ℕ → ℕ) → Form → Type 0 where
  by_number : {p : ℕ → ℕ} {f : ℕ → RuleStep} → ((k a b : ℕ) → Made (λ i. Unit {0}) (f k) (f k) a b (p k)) → FormMade Zero p (from_number f)
  by_one : {p : ℕ → ℕ} {f : ℕ → ℕ → RuleStep} → ((k : ℕ) → 0 ≡ p k) → ((a b : ℕ) → Made (λ i. 0 < i) (f a b) (f 0 0) a b 0) → FormMade One p (from_one f)
  by_two : {p : ℕ → ℕ} {f : ℕ → ℕ → ℕ → RuleStep} → ((k : ℕ) → 0 ≡ p k) → ((l a b : ℕ) → Made (λ i. l < i) (f l a b) (f 0 0 0) a b 0) → FormMade Two p (from_two f)

form_made : (o : Operator) → FormMade (operands o) (predicates_of o) (form o)
form_made True = by_number (λ k a b. record { like = no_cells; fits = λ i A B h p q. tt; asks = refl })
form_made False = by_number (λ k a b. record { like = no_cells; fits = λ i A B h p q. tt; asks = refl })
form_made Step = by_number (λ k a b. record { like = no_cells; fits = λ i A B h p q. tt; asks = refl })
form_made Call = by_number (λ k a b. record { like = no_cells; fits = λ i A B h p q. tt; asks = refl })
form_made Begin = by_number (λ k a b. record { like = no_cells; fits = λ i A B h p q. tt; asks = refl })
form_made End = by_number (λ k a b. record { like = no_cells; fits = λ i A B h p q. tt; asks = refl })
form_made Return = by_number (λ k a b. record { like = no_cells; fits = λ i A B h p q. tt; asks = refl })
form_made Predicate = by_number (λ k a b. record { like = no_cells; fits = λ i A B h p q. tt; asks = refl })
form_made Routine = by_number (λ k a b. record { like = no_cells; fits = λ i A B h p q. tt; asks = refl })
form_made Not = by_one (λ k. refl) (λ a b. record { like = no_cells; fits = λ i A B h p q. h; asks = refl })
form_made Before = by_one (λ k. refl) (λ a b. record { like = plain_cells_lem; fits = λ i A B h p q. (h, omega arith); asks = refl })
form_made Rbefore = by_one (λ k. refl) (λ a b. record { like = routine_cells_lem; fits = λ i A B h p q. (h, omega arith); asks = refl })
form_made Once = by_one (λ k. refl) (λ a b. record { like = plain_cells_lem; fits = λ i A B h p q. (h, omega arith); asks = refl })
form_made Ronce = by_one (λ k. refl) (λ a b. record { like = routine_cells_lem; fits = λ i A B h p q. (h, omega arith); asks = refl })
form_made Always = by_one (λ k. refl) (λ a b. record { like = plain_cells_lem; fits = λ i A B h p q. (h, omega arith); asks = refl })
form_made Ralways = by_one (λ k. refl) (λ a b. record { like = routine_cells_lem; fits = λ i A B h p q. (h, omega arith); asks = refl })
form_made Rise = by_one (λ k. refl) (λ a b. record { like = plain_cells_lem; fits = λ i A B h p q. (h, omega arith); asks = refl })
form_made Fall = by_one (λ k. refl) (λ a b. record { like = plain_cells_lem; fits = λ i A B h p q. (h, omega arith); asks = refl })
form_made And = by_two (λ k. refl) (λ l a b. record { like = no_cells; fits = λ i A B h p q. h; asks = refl })
form_made Or = by_two (λ k. refl) (λ l a b. record { like = no_cells; fits = λ i A B h p q. h; asks = refl })
form_made Implies = by_two (λ k. refl) (λ l a b. record { like = no_cells; fits = λ i A B h p q. h; asks = refl })
form_made Since = by_two (λ k. refl) (λ l a b. record { like = plain_cells_lem; fits = λ i A B h p q. (h, omega arith); asks = refl })
form_made Rsince = by_two (λ k. refl) (λ l a b. record { like = routine_cells_lem; fits = λ i A B h p q. (h, omega arith); asks = refl })

-- a word with another number of operands
misplaced : (Behind : ℕ → Type 0) (a b n : ℕ) → 0 ≡ n → Made Behind RuleStep.False RuleStep.False a b n
misplaced Behind a b n e = record { like = no_cells; fits = λ i A B h p q. tt; asks = e }

none_made : {o : Operands} {p : ℕ → ℕ} {φ : Form} → FormMade o p φ → (k a b : ℕ) → Made (λ i. Unit {0}) (step_of_none φ k) (step_of_none φ k) a b (p k)
none_made (by_number m) k a b = m k a b
none_made (by_one z m) k a b = misplaced _ a b _ (z k)
none_made (by_two z m) k a b = misplaced _ a b _ (z k)

one_made : {o : Operands} {p : ℕ → ℕ} {φ : Form} → FormMade o p φ → (a b : ℕ) → Made (λ i. 0 < i) (step_of_one φ a b) (step_of_one φ 0 0) a b 0
one_made (by_number m) a b = misplaced _ a b 0 refl
one_made (by_one z m) a b = m a b
one_made (by_two z m) a b = misplaced _ a b 0 refl

two_made : {o : Operands} {p : ℕ → ℕ} {φ : Form} → FormMade o p φ → (l a b : ℕ) → Made (λ i. l < i) (step_of_two φ l a b) (step_of_two φ 0 0 0) a b 0
two_made (by_number m) l a b = misplaced _ a b 0 refl
two_made (by_one z m) l a b = misplaced _ a b 0 refl
two_made (by_two z m) l a b = m l a b

-- the operands of the tree's last node, the left one with the number l, are behind the number i
abbrev Behind : ℕ → Tree → ℕ → Type 0
Behind l (leaf w) i = Unit {0}
Behind l (one w t) i = 0 < i
Behind l (two w t u) i = l < i

-- how many predicates the tree's last node asks for
abbrev asks_of : Tree → ℕ
asks_of (leaf w) = predicates_of w.operator w.number
asks_of (one w t) = 0
asks_of (two w t u) = 0

own_made : (t : Tree) (l a b : ℕ) → Made (Behind l t) (own l a b t) (step_of t) a b (asks_of t)
own_made (leaf w) l a b = none_made (form_made w.operator) w.number a b
own_made (one w t) l a b = one_made (form_made w.operator) a b
own_made (two w t u) l a b = two_made (form_made w.operator) l a b

-- a node's step is its tree's own where the word takes as many units as the tree has
abbrev many : Operands → ℕ
many Zero = 0
many One = 1
many Two = 2

from_none : {o : Operands} {p : ℕ → ℕ} {φ : Form} → FormMade o p φ → o ≡ Zero → (k l a b : ℕ) → step_from φ k l a b ≡ step_of_none φ k
from_none (by_number m) e k l a b = refl
from_none (by_one z m) e k l a b = absurd (omega (arith, ap many e))
from_none (by_two z m) e k l a b = absurd (omega (arith, ap many e))

from_some : {o : Operands} {p : ℕ → ℕ} {φ : Form} → FormMade o p φ → o ≡ One → (k l a b : ℕ) → step_from φ k l a b ≡ step_of_one φ a b
from_some (by_number m) e k l a b = absurd (omega (arith, ap many e))
from_some (by_one z m) e k l a b = refl
from_some (by_two z m) e k l a b = absurd (omega (arith, ap many e))

from_both : {o : Operands} {p : ℕ → ℕ} {φ : Form} → FormMade o p φ → o ≡ Two → (k l a b : ℕ) → step_from φ k l a b ≡ step_of_two φ l a b
from_both (by_number m) e k l a b = absurd (omega (arith, ap many e))
from_both (by_one z m) e k l a b = absurd (omega (arith, ap many e))
from_both (by_two z m) e k l a b = refl

-- the cells of the tree's last node
abbrev own_plain : Tree → ℕ
own_plain t = length (if_plain (cell_of (step_of t)) t)

abbrev own_routine : Tree → ℕ
own_routine t = length (if_routine (cell_of (step_of t)) t)

own_plain_lem : (t : Tree) (l a b : ℕ) → plains (own l a b t) ≡ own_plain t
own_plain_lem t l a b = like_plain (own_made t l a b).like (own l a b t) t

own_routine_lem : (t : Tree) (l a b : ℕ) → routines (own l a b t) ≡ own_routine t
own_routine_lem t l a b = like_routine (own_made t l a b).like (own l a b t) t

-- what f has for the nodes of a tree, by its parts
module _ (f : Tree → List Tree) where
  count_one : (w : Word) (t : Tree) → length (in_order f (one w t)) ≡ length (in_order f t) + length (f (one w t))
  unfolding in_order
  count_one w t = length-append (in_order f t) (f (one w t))

  count_two : (w : Word) (l r : Tree) → length (in_order f (two w l r)) ≡ length (in_order f l) + length (in_order f r) + length (f (two w l r))
  unfolding in_order
  count_two w l r = omega (arith, length-append (in_order f l) (in_order f r ++ f (two w l r)), length-append (in_order f r) (f (two w l r)))

plain_one : (w : Word) (t : Tree) → plain_cells (one w t) ≡ plain_cells t + own_plain (one w t)
plain_one w t = count_one (λ u. if_plain (cell_of (step_of u)) u) w t

plain_two : (w : Word) (l r : Tree) → plain_cells (two w l r) ≡ plain_cells l + plain_cells r + own_plain (two w l r)
plain_two w l r = count_two (λ u. if_plain (cell_of (step_of u)) u) w l r

routine_one : (w : Word) (t : Tree) → routine_cells (one w t) ≡ routine_cells t + own_routine (one w t)
routine_one w t = count_one (λ u. if_routine (cell_of (step_of u)) u) w t

routine_two : (w : Word) (l r : Tree) → routine_cells (two w l r) ≡ routine_cells l + routine_cells r + own_routine (two w l r)
routine_two w l r = count_two (λ u. if_routine (cell_of (step_of u)) u) w l r

-- the node of a tree's top, and then others
top : (t : Tree) (n : Node) (l a b a' b' : ℕ) (ns : List Node) → node_step n a b ≡ own l a b t → a' ≡ a + own_plain t → b' ≡ b + own_routine t → planned a b (n ∷ ns) ≡ own l a b t ∷ planned a' b' ns
unfolding planned
top t n l a b a' b' ns e p q =
    let ep : a + plains (own l a b t) ≡ a' = omega (arith, own_plain_lem t l a b) in
    let eq : b + routines (own l a b t) ≡ b' = omega (arith, own_routine_lem t l a b) in
    ap (λ s. s ∷ planned (a + plains s) (b + routines s) ns) e ∙ ap₂ (λ x y. own l a b t ∷ planned x y ns) ep eq

pub planned_plan : (t : Tree) (n a b : ℕ) (ns : List Node) → Counted t → planned a b (nodes n t ++ ns) ≡ plan n a b t ++ planned (a + plain_cells t) (b + routine_cells t) ns
unfolding nodes plan in_order
planned_plan (leaf w) n a b ns C = top (leaf w) (node w 0) 0 a b _ _ ns (from_none (form_made w.operator) C w.number 0 a b) refl refl
planned_plan (one w t) n a b ns C =
    let a' = a + plain_cells t in
    let b' = b + routine_cells t in
    let u = one w t in
    let last : planned a' b' (node w 0 ∷ ns) ≡ own 0 a' b' u ∷ planned (a + plain_cells u) (b + routine_cells u) ns = top u (node w 0) 0 a' b' _ _ ns (from_some (form_made w.operator) C.0 w.number 0 a' b') (omega (arith, plain_one w t)) (omega (arith, routine_one w t)) in
    ap (planned a b) (append_assoc (nodes n t) (node w 0 ∷ []) ns) ∙ (planned_plan t n a b (node w 0 ∷ ns) C.1 ∙ (ap (λ l. plan n a b t ++ l) last ∙ sym (append_assoc (plan n a b t) (own 0 a' b' u ∷ []) _)))
planned_plan (two w l r) n a b ns C =
    let k = n + size l - 1 in
    let a' = a + plain_cells l in
    let b' = b + routine_cells l in
    let a'' = a' + plain_cells r in
    let b'' = b' + routine_cells r in
    let u = two w l r in
    let v = node w k in
    let s = own k a'' b'' u in
    let first = plan n a b l in
    let second = plan (n + size l) a' b' r in
    let rest = planned (a + plain_cells u) (b + routine_cells u) ns in
    let last : planned a'' b'' (v ∷ ns) ≡ s ∷ rest = top u v k a'' b'' _ _ ns (from_both (form_made w.operator) C.0 w.number k a'' b'') (omega (arith, plain_two w l r)) (omega (arith, routine_two w l r)) in
    let right : planned a' b' (nodes (n + size l) r ++ v ∷ ns) ≡ second ++ s ∷ rest = planned_plan r (n + size l) a' b' (v ∷ ns) C.2 ∙ ap (λ x. second ++ x) last in
    let parted : (nodes n l ++ (nodes (n + size l) r ++ v ∷ [])) ++ ns ≡ nodes n l ++ (nodes (n + size l) r ++ v ∷ ns) = simp append_assoc in
    let joined : first ++ (second ++ s ∷ rest) ≡ (first ++ (second ++ s ∷ [])) ++ rest = simp append_assoc in
    ap (planned a b) parted ∙ (planned_plan l n a b (nodes (n + size l) r ++ v ∷ ns) C.1 ∙ (ap (λ x. first ++ x) right ∙ joined))

pub size_some : (t : Tree) → 0 < size t
size_some (leaf w) = omega arith
size_some (one w t) = omega arith
size_some (two w l r) = omega arith

sound_append : (ss us : List RuleStep) (i j a b : ℕ) → i + length ss ≡ j → Sound i a b ss → Sound j a b us → Sound i a b (ss ++ us)
unfolding Sound
sound_append [] us i j a b e S U = let P : ℕ → Type 0 = λ k. Sound k a b us in let same : j ≡ i = omega arith in subst P same U
sound_append (s ∷ ss) us i j a b e S U = (S.0, sound_append ss us (suc i) j a b (omega arith) S.1 U)

own_fits : (t : Tree) (l a b i A B : ℕ) → Behind l t i → a + own_plain t ≤ A → b + own_routine t ≤ B → Sound i A B (own l a b t ∷ [])
unfolding Sound
own_fits t l a b i A B h p q = ((own_made t l a b).fits i A B h (omega (arith, own_plain_lem t l a b)) (omega (arith, own_routine_lem t l a b)), tt)

-- the steps of a tree find their cells among those counted so far and its own
pub plan_sound : (t : Tree) (n a b A B : ℕ) → a + plain_cells t ≤ A → b + routine_cells t ≤ B → Sound n A B (plan n a b t)
unfolding plan in_order
plan_sound (leaf w) n a b A B p q = own_fits (leaf w) 0 a b n A B tt p q
plan_sound (one w t) n a b A B p q =
    let P = plain_one w t in
    let Q = routine_one w t in
    let last = own_fits (one w t) 0 (a + plain_cells t) (b + routine_cells t) (n + size t) A B (omega (arith, size_some t)) (omega arith) (omega arith) in
    sound_append (plan n a b t) _ n (n + size t) A B (ap (λ k. n + k) (plan_length n a b t)) (plan_sound t n a b A B (omega arith) (omega arith)) last
plan_sound (two w l r) n a b A B p q =
    let P = plain_two w l r in
    let Q = routine_two w l r in
    let a' = a + plain_cells l in
    let b' = b + routine_cells l in
    let last = own_fits (two w l r) (n + size l - 1) (a' + plain_cells r) (b' + routine_cells r) (n + size l + size r) A B (omega (arith, size_some l)) (omega arith) (omega arith) in
    let right = sound_append (plan (n + size l) a' b' r) _ (n + size l) (n + size l + size r) A B (ap (λ k. n + size l + k) (plan_length (n + size l) a' b' r)) (plan_sound r (n + size l) a' b' A B (omega arith) (omega arith)) last in
    sound_append (plan n a b l) _ n (n + size l) A B (ap (λ k. n + k) (plan_length n a b l)) (plan_sound l n a b A B (omega arith) (omega arith)) right

-- the steps of a tree ask for what its leaves do
own_asks : (t : Tree) (l a b : ℕ) → asked (own l a b t ∷ []) ≡ asks_of t
own_asks t l a b = asked_one (own l a b t) ∙ (own_made t l a b).asks

pub plan_asked : (t : Tree) (n a b : ℕ) → asked (plan n a b t) ≡ predicates t
unfolding plan
plan_asked (leaf w) n a b = own_asks (leaf w) 0 a b
plan_asked (one w t) n a b =
    let s = own 0 (a + plain_cells t) (b + routine_cells t) (one w t) in
    omega (arith, asked_append (plan n a b t) (s ∷ []), plan_asked t n a b, own_asks (one w t) 0 (a + plain_cells t) (b + routine_cells t))
plan_asked (two w l r) n a b =
    let a' = a + plain_cells l in
    let b' = b + routine_cells l in
    let k = n + size l - 1 in
    let s = own k (a' + plain_cells r) (b' + routine_cells r) (two w l r) in
    let second = plan (n + size l) a' b' r in
    omega (arith, asked_append (plan n a b l) (second ++ s ∷ []), asked_append second (s ∷ []), plan_asked l n a b, plan_asked r (n + size l) a' b', own_asks (two w l r) k (a' + plain_cells r) (b' + routine_cells r))

-- as many cells keep values as the tree has: those that are picked, by steps and by trees
module _ (pick : Cell → ℕ → List ℕ) (pick_tree : Cell → Tree → List Tree) (same : (a b : ℕ) (c k : Cell) → Like a b c k → (i : ℕ) (u : Tree) → length (pick c i) ≡ length (pick_tree k u)) where
  abbrev picked : Tree → List Tree
  picked u = pick_tree (cell_of (step_of u)) u

  own_count : (t : Tree) (l a b i : ℕ) → length (sources pick i (own l a b t ∷ [])) ≡ length (picked t)
  own_count t l a b i = ap length (sources_one pick i (own l a b t)) ∙ same a b _ _ (own_made t l a b).like (source (own l a b t) i) t

  then : (i : ℕ) (ss us : List RuleStep) → length (sources pick i (ss ++ us)) ≡ length (sources pick i ss) + length (sources pick (i + length ss) us)
  then i ss us = ap length (sources_append pick i ss us) ∙ length-append (sources pick i ss) (sources pick (i + length ss) us)

  plan_count : (t : Tree) (i n a b : ℕ) → length (sources pick i (plan n a b t)) ≡ length (in_order picked t)
  unfolding plan in_order
  plan_count (leaf w) i n a b = own_count (leaf w) 0 a b i
  plan_count (one w t) i n a b =
      let s = own 0 (a + plain_cells t) (b + routine_cells t) (one w t) in
      let first = plan n a b t in
      omega (arith, then i first (s ∷ []), plan_count t i n a b, own_count (one w t) 0 (a + plain_cells t) (b + routine_cells t) (i + length first), length-append (in_order picked t) (picked (one w t)))
  plan_count (two w l r) i n a b =
      let a' = a + plain_cells l in
      let b' = b + routine_cells l in
      let k = n + size l - 1 in
      let u = two w l r in
      let s = own k (a' + plain_cells r) (b' + routine_cells r) u in
      let first = plan n a b l in
      let second = plan (n + size l) a' b' r in
      let i' = i + length first in
      omega (arith, then i first (second ++ s ∷ []), then i' second (s ∷ []), plan_count l i n a b, plan_count r i' (n + size l) a' b', own_count u k (a' + plain_cells r) (b' + routine_cells r) (i' + length second), length-append (in_order picked l) (in_order picked r ++ picked u), length-append (in_order picked r) (picked u))

pub plain_sources : (t : Tree) (i n a b : ℕ) → length (sources if_plain i (plan n a b t)) ≡ plain_cells t
plain_sources t i n a b = plan_count if_plain if_plain (λ x y c k h j u. like_plain h j u) t i n a b

pub routine_sources : (t : Tree) (i n a b : ℕ) → length (sources if_routine i (plan n a b t)) ≡ routine_cells t
routine_sources t i n a b = plan_count if_routine if_routine (λ x y c k h j u. like_routine h j u) t i n a b
