use lib.Ieee.{of_bits}
use Rattle.std.proofs.Common.{rules}
use Rattle.weights.specs.Costs.{base_cost}
use Rattle.weights.proofs.Costs.{zero_small, half_small}
use Rattle.weights.proofs.base_cost.Goals as goal

pub invariant_of-result : goal.invariant_of-result
unfolding of_bits
invariant_of-result c = record { small = search (rules, zero_small, half_small) }

pub returns : goal.returns
unfolding of_bits base_cost
returns c = search rules
