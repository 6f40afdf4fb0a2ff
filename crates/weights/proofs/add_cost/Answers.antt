use lib.Ieee.{binary32}
use Rattle.weights.proofs.Nonneg.{add_nonneg, mul_nonneg}
use Rattle.weights.proofs.Costs.{add_skipped, add_added}
use Rattle.weights.proofs.add_cost.Goals as goal

-- `weights::add_cost` meets its contract. Assumes nothing.

pub returns-then-cost : goal.returns-then-cost
returns-then-cost c = add_skipped _ _ _ c.args.cost.plain c.if-cost.true

pub returns : goal.returns
returns c = add_added _ _ _ c.args.cost.plain c.if-cost.false

pub invariant_of-result : goal.invariant_of-result
invariant_of-result c = let a = c.args in
    record { nonneg = add_nonneg binary32 _ _ a.sum.nonneg (mul_nonneg binary32 _ _ a.cost.plain a.freq.plain) }
