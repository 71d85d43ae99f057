-- The open routines as they stand in their list.
use Rattle.std.proofs.Common.{◌≡◌, ℕ, ◌≤◌, List, map, length, take, ◌∙◌, arith, length-take}
use lib.ListN.{length-map}
use Rattle.std.proofs.lemmas.List.{length-reverse}
use Rattle.watching.specs.Refusals.{routines_in}
use Rattle.watching.specs.declared.OpenRoutine.{OpenRoutine}

pub routines_length : (d : ℕ) (os : List OpenRoutine) → d ≤ length os → length (routines_in d os) ≡ d
routines_length d os h = length-reverse (map (λ o. o.routine) (take d os)) ∙ (length-map (take d os) (λ o. o.routine) ∙ omega (arith, length-take d os))
