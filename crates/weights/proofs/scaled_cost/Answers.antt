use Rattle.std.proofs.Common.{rules}
use Rattle.definition.specs.Weights.{scaled}
use Rattle.weights.proofs.Bits.{small_plain, product_plain}
use Rattle.weights.proofs.scaled_cost.Goals as goal

pub invariant_of-result : goal.invariant_of-result
invariant_of-result c = record { plain = search (rules, small_plain, product_plain, c.args.cost.small, c.requires) }

pub returns : goal.returns
unfolding scaled
returns c = search rules
