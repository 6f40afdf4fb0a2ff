use lib.Ieee.{of_bits}
use Rattle.std.proofs.Common.{rules}
use Rattle.weights.proofs.Costs.{zero_small, one_small}
use Rattle.weights.proofs.fixed_cost.Goals as goal

pub invariant_of-result : goal.invariant_of-result
unfolding of_bits
invariant_of-result c = record { small = search (rules, zero_small, one_small) }
