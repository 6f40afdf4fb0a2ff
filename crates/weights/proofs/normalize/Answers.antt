use native.Mathlib.Omega.{arith}
use Rattle.weights.proofs.Costs.{max_bits, is_normalized}
use Rattle.weights.proofs.normalize.Goals as goal

pub invariant_of-result : goal.invariant_of-result
invariant_of-result c = let a = c.args in
    record { plain = (is_normalized a.sum.value a.insts a.k _ _ a.sum.nonneg (omega arith) (omega arith) max_bits c.lesser-value.ensures).1 }

pub returns : goal.returns
returns c = let a = c.args in (is_normalized a.sum.value a.insts a.k _ _ a.sum.nonneg (omega arith) (omega arith) max_bits c.lesser-value.ensures).0
