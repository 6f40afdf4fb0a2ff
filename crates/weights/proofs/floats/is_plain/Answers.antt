use native.Mathlib.Omega.{arith}
use Rattle.weights.proofs.Bits.{plain_test}
use Rattle.weights.proofs.floats.is_plain.Goals as goal

-- `floats::is_plain` meets its contract. Assumes nothing.

pub returns : goal.returns
returns c = plain_test c.args.bits (omega arith)
