-- What a program holds of its rule.
--   steps p         its steps, one for each node
--   plain_numbers p, routine_numbers p  for each of its cells the number of the step whose value it keeps
--   wanted p        how many predicates it asks for
--   predicates t    how many predicates a reading must have for the rule with the tree t: one more than the greatest N of a `pN` in it
--   HasAll n t      a reading of n values has one for each `pN` of the rule
--   Runs p t        the program runs the rule with the tree t
--   Fits s i a b    the step number i has its operands before it, and its cell is one of a plain and b routine cells
--   Sound i a b ss  this holds of all the steps ss, the first of which has the number i
use Rattle.std.specs.Prelude.{◌≡◌, ℕ, suc, ◌<◌, max, List, [], ◌∷◌}
use Rattle.words.specs.declared.Operator.{Operator}
use Rattle.words.specs.declared.Operator.TheVariants.{And, Or, Implies, Since, Rsince, Not, Before, Rbefore, Once, Ronce, Always, Ralways, Rise, Fall, True, False, Step, Call, Begin, End, Return, Predicate, Routine}
use Rattle.fixed_vec.specs.Elements.{elements}
use Rattle.grammar.specs.Grammar.{Tree, leaf, one, two}
use Rattle.evaluation.specs.declared.Step.{Step as RuleStep}
use Rattle.evaluation.specs.Plan.{rule_plan, if_plain, if_routine}
use Rattle.evaluation.specs.Steps.{sources}
use Rattle.program.specs.declared.program.Program.{Program}

abbrev pub steps : Program → List RuleStep
steps p = elements p.parts.steps

abbrev pub plain_numbers : Program → List ℕ
plain_numbers p = elements p.parts.plain

abbrev pub routine_numbers : Program → List ℕ
routine_numbers p = elements p.parts.routine

abbrev pub wanted : Program → ℕ
wanted p = p.parts.predicates

-- how many a leaf asks for
abbrev pub predicates_of : Operator → ℕ → ℕ
predicates_of And n = 0
predicates_of Or n = 0
predicates_of Implies n = 0
predicates_of Since n = 0
predicates_of Rsince n = 0
predicates_of Not n = 0
predicates_of Before n = 0
predicates_of Rbefore n = 0
predicates_of Once n = 0
predicates_of Ronce n = 0
predicates_of Always n = 0
predicates_of Ralways n = 0
predicates_of Rise n = 0
predicates_of Fall n = 0
predicates_of True n = 0
predicates_of False n = 0
predicates_of Step n = 0
predicates_of Call n = 0
predicates_of Begin n = 0
predicates_of End n = 0
predicates_of Return n = 0
predicates_of Predicate n = suc n
predicates_of Routine n = 0

abbrev pub predicates : Tree → ℕ
predicates (leaf w) = predicates_of w.operator w.number
predicates (one w t) = predicates t
predicates (two w l r) = max (predicates l) (predicates r)

-- each `pN` of the rule has N < n
abbrev pub HasAll : ℕ → Tree → Type 0
HasAll n (leaf w) = w.operator ≡ Predicate → w.number < n
HasAll n (one w t) = HasAll n t
HasAll n (two w l r) = HasAll n l × HasAll n r

pub record Runs (p : Program) (t : Tree) : Type 0 where
  pub steps : steps p ≡ rule_plan t
  pub plain : plain_numbers p ≡ sources if_plain 0 (rule_plan t)
  pub routine : routine_numbers p ≡ sources if_routine 0 (rule_plan t)
  pub predicates : wanted p ≡ predicates t

abbrev pub Fits : RuleStep → ℕ → ℕ → ℕ → Type 0
Fits RuleStep.True i a b = Unit {0}
Fits RuleStep.False i a b = Unit {0}
Fits (RuleStep.Kind k) i a b = Unit {0}
Fits (RuleStep.Predicate n) i a b = Unit {0}
Fits (RuleStep.Routine n) i a b = Unit {0}
Fits RuleStep.Not i a b = 0 < i
Fits (RuleStep.And l) i a b = l < i
Fits (RuleStep.Or l) i a b = l < i
Fits (RuleStep.Implies l) i a b = l < i
Fits (RuleStep.Before c) i a b = (0 < i) × (c < a)
Fits (RuleStep.Rbefore c) i a b = (0 < i) × (c < b)
Fits (RuleStep.Once c) i a b = (0 < i) × (c < a)
Fits (RuleStep.Ronce c) i a b = (0 < i) × (c < b)
Fits (RuleStep.Always c) i a b = (0 < i) × (c < a)
Fits (RuleStep.Ralways c) i a b = (0 < i) × (c < b)
Fits (RuleStep.Since l c) i a b = (l < i) × (c < a)
Fits (RuleStep.Rsince l c) i a b = (l < i) × (c < b)
Fits (RuleStep.Rise c) i a b = (0 < i) × (c < a)
Fits (RuleStep.Fall c) i a b = (0 < i) × (c < a)

unfoldable pub Sound : ℕ → ℕ → ℕ → List RuleStep → Type 0
Sound i a b [] = Unit {0}
Sound i a b (s ∷ ss) = Fits s i a b × Sound (suc i) a b ss
