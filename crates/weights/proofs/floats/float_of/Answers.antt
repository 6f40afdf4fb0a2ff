use mathlib.Core.Path.{refl}
use Rattle.weights.proofs.Bits.{bits_number, bits_nonneg}
use Rattle.weights.proofs.floats.float_of.Goals as goal

-- `floats::float_of` meets its contract. Assumes nothing.

pub float_from_bits-result : goal.float_from_bits-result
float_from_bits-result c = bits_number c.args.bits c.requires

pub returns : goal.returns
returns c = (refl, bits_nonneg c.args.bits c.requires)
