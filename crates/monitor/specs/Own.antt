-- The lists 1 to 4 by their contents, and the cells among them by what they mean.
use Rattle.std.specs.Prelude.{List, map}
use Rattle.evaluation.specs.Steps.{Cells}
use Rattle.watching.specs.Memory.{Own}
use Rattle.watching.specs.declared.OpenRoutine.{OpenRoutine}

abbrev pub own : {V : Type 0} → List V → List V → List V → List OpenRoutine → Own V
own plain routine stack opened = record { plain = plain; routine = routine; stack = stack; opened = opened }

abbrev pub cells : {V W : Type 0} → (V → W) → List V → List V → Cells W
cells f plain routine = record { plain = map f plain; routine = map f routine }
