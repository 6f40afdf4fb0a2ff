use lib.Ieee.{of_bits}
use Rattle.std.proofs.Common.{rules}
use Rattle.weights.proofs.Costs.{zero_small, half_small}
use Rattle.emit.specs.Told.{cost_by}
use Rattle.emit.proofs.row_cost.Goals as goal

pub invariant_of-result : goal.invariant_of-result
unfolding of_bits
invariant_of-result c = record { small = search (rules, zero_small, half_small) }

pub returns : goal.returns
unfolding of_bits cost_by
returns c = search rules
