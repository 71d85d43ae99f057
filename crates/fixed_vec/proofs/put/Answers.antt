use Rattle.std.proofs.Common.{◌≡◌, take, rules}
use Rattle.fixed_vec.proofs.Cuts.{length_joined, put_memory}
use Rattle.fixed_vec.proofs.put.Goals as goal

pub returns-clause-place : goal.returns-clause-place
returns-clause-place g c = length_joined c.args.buffer.now c.args.piece.now c.args.at _ _ c.min-from.ensures c.min-count.ensures

pub returns-clause-memory : goal.returns-clause-memory
returns-clause-memory g c =
    let part : c.copy_from_slice.new.self ≡ take c.min-count.result c.args.piece.now = search rules in
    put_memory c.args.buffer.now c.args.piece.now c.copy_from_slice.new.self c.args.at _ _ c.min-from.ensures c.min-count.ensures part
