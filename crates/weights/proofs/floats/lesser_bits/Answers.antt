use Rattle.weights.proofs.Bits.{lesser}
use Rattle.weights.proofs.floats.lesser_bits.Goals as goal

pub returns : goal.returns
returns c = lesser _ _ _ c.requires.0 c.requires.1 c.min.ensures
