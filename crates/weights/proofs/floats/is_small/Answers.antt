use native.Mathlib.Omega.{arith}
use Rattle.weights.proofs.Bits.{small_test}
use Rattle.weights.proofs.floats.is_small.Goals as goal

-- `floats::is_small` meets its contract. Assumes nothing.

pub returns : goal.returns
returns c = small_test c.args.bits (omega arith)
