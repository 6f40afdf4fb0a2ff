use lib.Ieee.{of_bits}
use Rattle.std.proofs.Common.{rules}
use Rattle.definition.specs.Uses.{cost_of}
use Rattle.weights.proofs.Costs.{zero_small, half_small}
use Rattle.vreg_weight.proofs.costs.use_cost.Goals as goal

pub invariant_of-fixed_cost : goal.invariant_of-fixed_cost
unfolding of_bits
invariant_of-fixed_cost c = record { small = search (rules, zero_small, half_small) }

pub returns : goal.returns
unfolding of_bits cost_of
returns c = search rules
