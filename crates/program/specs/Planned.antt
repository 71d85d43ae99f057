-- The steps of a rule from its nodes, one after another.
--   node_step n a b       the step of a node; a and b are the numbers of its plain and of its routine cell; step_from makes it of its word's form
--   plains s, routines s  how many plain and how many routine cells a step has
--   planned a b ns        the steps of the nodes ns, whose first cells have the numbers a and b
--   asked_by s, asked ss  how many predicates a reading must have for a step and for steps: one more than the greatest number of a `pN`
use Rattle.std.specs.Prelude.{ℕ, suc, ◌+◌, max, List, [], ◌∷◌, length}
use Rattle.grammar.specs.declared.Node.{Node}
use Rattle.evaluation.specs.declared.Step.{Step}
use Rattle.evaluation.specs.declared.Step.TheVariants.{True, False, Kind, Predicate, Routine, Not, And, Or, Implies, Before, Rbefore, Once, Ronce, Always, Ralways, Since, Rsince, Rise, Fall}
use Rattle.evaluation.specs.Plan.{cell_of, if_plain, if_routine, Form, from_number, from_one, from_two, form}

-- from a word's number k, its left operand's number l and its cells
abbrev pub step_from : Form → ℕ → ℕ → ℕ → ℕ → Step
step_from (from_number f) k l a b = f k
step_from (from_one f) k l a b = f a b
step_from (from_two f) k l a b = f l a b

abbrev pub node_step : Node → ℕ → ℕ → Step
node_step n a b = step_from (form n.word.operator) n.word.number n.left a b

-- how many plain, how many routine cells a step has: one or none
abbrev pub plains : Step → ℕ
plains s = length (if_plain (cell_of s) s)

abbrev pub routines : Step → ℕ
routines s = length (if_routine (cell_of s) s)

unfoldable pub planned : ℕ → ℕ → List Node → List Step
planned a b [] = []
planned a b (n ∷ ns) = node_step n a b ∷ planned (a + plains (node_step n a b)) (b + routines (node_step n a b)) ns

-- how many predicates a step asks for
abbrev pub asked_by : Step → ℕ
asked_by True = 0
asked_by False = 0
asked_by (Kind k) = 0
asked_by (Predicate n) = suc n
asked_by (Routine n) = 0
asked_by Not = 0
asked_by (And l) = 0
asked_by (Or l) = 0
asked_by (Implies l) = 0
asked_by (Before c) = 0
asked_by (Rbefore c) = 0
asked_by (Once c) = 0
asked_by (Ronce c) = 0
asked_by (Always c) = 0
asked_by (Ralways c) = 0
asked_by (Since l c) = 0
asked_by (Rsince l c) = 0
asked_by (Rise c) = 0
asked_by (Fall c) = 0

unfoldable pub asked : List Step → ℕ
asked [] = 0
asked (s ∷ ss) = max (asked_by s) (asked ss)
