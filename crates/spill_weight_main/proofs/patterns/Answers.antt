use mathlib.Core.Path.{ap}
use mathlib.Core.Bool.{not}
use borrow.Author.Tests.{eq-eqb}
use lib.Ieee.{of_bits, to_bits, lt}
use Rattle.definition.specs.Entry.{small}
use Rattle.definition.specs.Weights.{min_f}
use Rattle.spill_weight_main.proofs.patterns.Goals as goal

pub expect-requires : goal.expect-requires
unfolding of_bits
expect-requires c = c.is_plain.ensures

pub expect-requires-2 : goal.expect-requires-2
unfolding of_bits
expect-requires-2 c = ap not c.is_plain-2.ensures

pub expect-requires-3 : goal.expect-requires-3
unfolding of_bits
expect-requires-3 c = ap not c.is_plain-3.ensures

pub expect-requires-4 : goal.expect-requires-4
unfolding small of_bits
expect-requires-4 c = c.is_small.ensures

pub expect-requires-5 : goal.expect-requires-5
unfolding small of_bits
expect-requires-5 c = ap not c.is_small-2.ensures

pub expect-requires-6 : goal.expect-requires-6
unfolding min_f of_bits to_bits lt
expect-requires-6 c = eq-eqb c.lesser_bits.result 0x3f00_0000 c.lesser_bits.ensures.0

pub expect-requires-7 : goal.expect-requires-7
unfolding min_f of_bits to_bits lt
expect-requires-7 c = eq-eqb c.lesser_bits-2.result 1 c.lesser_bits-2.ensures.0
