-- A word has 64 predicates.
use Rattle.std.proofs.Common.{rules}
use Rattle.readings.specs.Few.{length_bits}
use Rattle.readings.proofs.predicates.PredicatesSource.len.Goals as goal

pub returns : goal.returns
returns c = search (rules, length_bits)
