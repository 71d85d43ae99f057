-- A program's parts in the making, and what one step puts into them.
--   in_plain k, in_routine k  the number that goes with a plain, with a routine cell, where there is one
--   comes_to p ns             the steps that the parts p come to when the nodes ns follow
use Rattle.std.specs.Prelude.{ℕ, List, [], ◌∷◌, ◌++◌, length, Some, None, Option}
use Rattle.fixed_vec.specs.Elements.{elements}
use Rattle.grammar.specs.declared.Node.{Node}
use Rattle.evaluation.specs.declared.Step.{Step}
use Rattle.program.specs.Planned.{planned}
use Rattle.program.specs.declared.parts.Parts.{Parts}
use Rattle.program.specs.declared.making.Kept.{Kept}
use Rattle.program.specs.declared.making.Kept.TheVariants.{Plain, Routine}

abbrev pub in_plain : Option Kept → List ℕ
in_plain None = []
in_plain (Some (Plain k)) = k ∷ []
in_plain (Some (Routine k)) = []

abbrev pub in_routine : Option Kept → List ℕ
in_routine None = []
in_routine (Some (Plain k)) = []
in_routine (Some (Routine k)) = k ∷ []

abbrev pub comes_to : Parts → List Node → List Step
comes_to p ns = elements p.steps ++ planned (length (elements p.plain)) (length (elements p.routine)) ns
