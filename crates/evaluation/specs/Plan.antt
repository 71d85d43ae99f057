-- The steps of a rule, one for each node: left operand, right operand, node.
--   Cell          where a step keeps a value: nowhere, in a plain cell or in a routine cell
--   cell_of s     the step's cell
--   Form, form o  which step a word becomes
--   own l a b t   the step of the tree's last node: l is its left operand's number, a and b are its cells
--   subtrees t    the trees of its nodes; plain_trees t, routine_trees t those that have a cell
--   plain_cells t, routine_cells t  how many cells it has
--   plan n a b t  the steps of a tree whose first node has the number n and whose first cells are a and b
--   rule_plan t   the steps of a rule
use Rattle.std.specs.Prelude.{ℕ, ◌+◌, ◌-◌, List, [], ◌∷◌, ◌++◌, length}
use Rattle.words.specs.declared.Operator.{Operator}
use Rattle.words.specs.declared.Operator.TheVariants.{And, Or, Implies, Since, Rsince, Not, Before, Rbefore, Once, Ronce, Always, Ralways, Rise, Fall, True, False, Step, Call, Begin, End, Return, Predicate, Routine}
use Rattle.grammar.specs.Grammar.{Tree, leaf, one, two}
use Rattle.grammar.specs.Nodes.{size}
use Rattle.reels.specs.declared.EventKind.{EventKind}
use Rattle.evaluation.specs.declared.Step.{Step as RuleStep}

pub data Cell : Type 0 where
  none : Cell
  plain routine : ℕ → Cell

abbrev pub cell_of : RuleStep → Cell
cell_of RuleStep.True = none
cell_of RuleStep.False = none
cell_of (RuleStep.Kind k) = none
cell_of (RuleStep.Predicate n) = none
cell_of (RuleStep.Routine n) = none
cell_of RuleStep.Not = none
cell_of (RuleStep.And l) = none
cell_of (RuleStep.Or l) = none
cell_of (RuleStep.Implies l) = none
cell_of (RuleStep.Before c) = plain c
cell_of (RuleStep.Rbefore c) = routine c
cell_of (RuleStep.Once c) = plain c
cell_of (RuleStep.Ronce c) = routine c
cell_of (RuleStep.Always c) = plain c
cell_of (RuleStep.Ralways c) = routine c
cell_of (RuleStep.Since l c) = plain c
cell_of (RuleStep.Rsince l c) = routine c
cell_of (RuleStep.Rise c) = plain c
cell_of (RuleStep.Fall c) = plain c

-- x where there is a plain cell; x where there is a routine cell
abbrev pub if_plain : {X : Type 0} → Cell → X → List X
if_plain none x = []
if_plain (plain c) x = x ∷ []
if_plain (routine c) x = []

abbrev pub if_routine : {X : Type 0} → Cell → X → List X
if_routine none x = []
if_routine (plain c) x = []
if_routine (routine c) x = x ∷ []

-- a step from the word's number; from its plain and its routine cell; and from its left operand's number too
pub data Form : Type 0 where
  from_number : (ℕ → RuleStep) → Form
  from_one : (ℕ → ℕ → RuleStep) → Form
  from_two : (ℕ → ℕ → ℕ → RuleStep) → Form

abbrev pub form : Operator → Form
form True = from_number (λ n. RuleStep.True)
form False = from_number (λ n. RuleStep.False)
form Step = from_number (λ n. RuleStep.Kind EventKind.Step)
form Call = from_number (λ n. RuleStep.Kind EventKind.Call)
form Begin = from_number (λ n. RuleStep.Kind EventKind.Begin)
form End = from_number (λ n. RuleStep.Kind EventKind.End)
form Return = from_number (λ n. RuleStep.Kind EventKind.Return)
form Predicate = from_number (λ n. RuleStep.Predicate n)
form Routine = from_number (λ n. RuleStep.Routine n)
form Not = from_one (λ a b. RuleStep.Not)
form Before = from_one (λ a b. RuleStep.Before a)
form Rbefore = from_one (λ a b. RuleStep.Rbefore b)
form Once = from_one (λ a b. RuleStep.Once a)
form Ronce = from_one (λ a b. RuleStep.Ronce b)
form Always = from_one (λ a b. RuleStep.Always a)
form Ralways = from_one (λ a b. RuleStep.Ralways b)
form Rise = from_one (λ a b. RuleStep.Rise a)
form Fall = from_one (λ a b. RuleStep.Fall a)
form And = from_two (λ l a b. RuleStep.And l)
form Or = from_two (λ l a b. RuleStep.Or l)
form Implies = from_two (λ l a b. RuleStep.Implies l)
form Since = from_two (λ l a b. RuleStep.Since l a)
form Rsince = from_two (λ l a b. RuleStep.Rsince l b)

-- a word's step without operands, with one and with two; `False` where it has another number of them and so stands in no rule
abbrev pub step_of_none : Form → ℕ → RuleStep
step_of_none (from_number f) n = f n
step_of_none (from_one f) n = RuleStep.False
step_of_none (from_two f) n = RuleStep.False

abbrev pub step_of_one : Form → ℕ → ℕ → RuleStep
step_of_one (from_number f) a b = RuleStep.False
step_of_one (from_one f) a b = f a b
step_of_one (from_two f) a b = RuleStep.False

abbrev pub step_of_two : Form → ℕ → ℕ → ℕ → RuleStep
step_of_two (from_number f) l a b = RuleStep.False
step_of_two (from_one f) l a b = RuleStep.False
step_of_two (from_two f) l a b = f l a b

abbrev pub own : ℕ → ℕ → ℕ → Tree → RuleStep
own l a b (leaf w) = step_of_none (form w.operator) w.number
own l a b (one w t) = step_of_one (form w.operator) a b
own l a b (two w t u) = step_of_two (form w.operator) l a b

-- the tree's last step but for its numbers
abbrev pub step_of : Tree → RuleStep
step_of t = own 0 0 0 t

-- what f has for the tree of each node, in node order
unfoldable pub in_order : {X : Type 0} → (Tree → List X) → Tree → List X
in_order f (leaf w) = f (leaf w)
in_order f (one w t) = in_order f t ++ f (one w t)
in_order f (two w l r) = in_order f l ++ (in_order f r ++ f (two w l r))

abbrev pub subtrees : Tree → List Tree
subtrees t = in_order (λ u. u ∷ []) t

abbrev pub plain_trees : Tree → List Tree
plain_trees t = in_order (λ u. if_plain (cell_of (step_of u)) u) t

abbrev pub routine_trees : Tree → List Tree
routine_trees t = in_order (λ u. if_routine (cell_of (step_of u)) u) t

abbrev pub plain_cells : Tree → ℕ
plain_cells t = length (plain_trees t)

abbrev pub routine_cells : Tree → ℕ
routine_cells t = length (routine_trees t)

unfoldable pub plan : ℕ → ℕ → ℕ → Tree → List RuleStep
plan n a b (leaf w) = own 0 a b (leaf w) ∷ []
plan n a b (one w t) = plan n a b t ++ own 0 (a + plain_cells t) (b + routine_cells t) (one w t) ∷ []
plan n a b (two w l r) = plan n a b l ++ (plan (n + size l) (a + plain_cells l) (b + routine_cells l) r ++ own (n + size l - 1) (a + plain_cells l + plain_cells r) (b + routine_cells l + routine_cells r) (two w l r) ∷ [])

abbrev pub rule_plan : Tree → List RuleStep
rule_plan t = plan 0 0 0 t
