use mathlib.Core.Path.{◌∙◌}
use mathlib.Core.Bool.{false}
use borrow.Author.Tests.{eq-eqb}
use Rattle.spill_weight_main.specs.Terms.{sum_terms}
use Rattle.spill_weight_main.proofs.Terms.{weighed, hundred_bits}
use Rattle.spill_weight_main.proofs.main.Goals as goal

pub expect-requires : goal.expect-requires
expect-requires c = eq-eqb _ _ (weighed (sum_terms 100) 37 5 false c.sum_terms-sum.ensures c.weight.ensures.0 c.bits_of.ensures.0 ∙ hundred_bits)
