-- Two lists side by side are as long as the shorter.
use Rattle.std.proofs.Common.{rules}
use Rattle.readings.specs.Few.{length_paired}
use Rattle.readings.proofs.pair.PairSourceSource.len.Goals as goal

pub returns : goal.returns
returns g c = search (rules, length_paired)
