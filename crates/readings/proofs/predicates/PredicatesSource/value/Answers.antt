-- A predicate is the bit that the shifted word ends in.
use Rattle.std.proofs.Common.{rules}
use Rattle.std.proofs.lemmas.Option.{IfSome_then}
use Rattle.readings.proofs.Places.{slice_get_bits}
use Rattle.readings.proofs.predicates.PredicatesSource.value.Goals as goal

pub returns : goal.returns
returns c = record { value = slice_get_bits _ _ c.then.result c.then.ensures.variant (IfSome_then c.then.result c.then.ensures.some (λ x p. search rules)) }
