use Rattle.reels.proofs.Depth.{depth_is_most}
use Rattle.reels.proofs.depth_stands.Goals as goal

pub returns : goal.returns
returns c = record { depth = depth_is_most }
