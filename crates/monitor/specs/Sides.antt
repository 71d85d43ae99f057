-- The cells of a watcher just made, on one side: plain or routine.
--   pick side        what the cells on this side have
--   starts_true s     whether the step's cell starts as true
--   listed x         what there is, as a list of one or none
use Rattle.std.specs.Prelude.{Bool, true, false, List, [], ◌∷◌, Some, None, Option}
use Rattle.evaluation.specs.declared.Step.{Step}
use Rattle.evaluation.specs.declared.Step.TheVariants.{True, False, Kind, Predicate, Routine, Not, And, Or, Implies, Before, Rbefore, Once, Ronce, Always, Ralways, Since, Rsince, Rise, Fall}
use Rattle.evaluation.specs.Plan.{Cell, if_plain, if_routine}
use Rattle.monitor.specs.declared.fresh.Side.{Side}

abbrev pub pick : {X : Type 0} → Side → Cell → X → List X
pick Side.Plain = if_plain
pick Side.Routine = if_routine

abbrev pub starts_true : Step → Bool
starts_true True = false
starts_true False = false
starts_true (Kind k) = false
starts_true (Predicate n) = false
starts_true (Routine n) = false
starts_true Not = false
starts_true (And l) = false
starts_true (Or l) = false
starts_true (Implies l) = false
starts_true (Before c) = false
starts_true (Rbefore c) = false
starts_true (Once c) = false
starts_true (Ronce c) = false
starts_true (Always c) = true
starts_true (Ralways c) = true
starts_true (Since l c) = false
starts_true (Rsince l c) = false
starts_true (Rise c) = false
starts_true (Fall c) = false

abbrev pub listed : {X : Type 0} → Option X → List X
listed (Some x) = x ∷ []
listed None = []
