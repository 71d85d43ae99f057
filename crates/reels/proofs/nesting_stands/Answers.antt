use Rattle.reels.proofs.Begins.{taken_exactly, refused_exactly, too_deep_exactly}
use Rattle.reels.proofs.nesting_stands.Goals as goal

pub returns : goal.returns
returns c = record { taken = taken_exactly; refused = refused_exactly; too_deep = too_deep_exactly }
