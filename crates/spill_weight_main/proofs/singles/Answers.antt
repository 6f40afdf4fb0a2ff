use borrow.Author.Tests.{eq-eqb}
use lib.Ieee.{of_bits, to_bits, add, mul, div, lt, of_int}
use Rattle.definition.specs.Weights.{add_cost, min_f, normalized}
use Rattle.weights.specs.Costs.{weight_from}
use Rattle.spill_weight_main.specs.Terms.{add_term, bits_from}
use Rattle.spill_weight_main.proofs.singles.Goals as goal

pub expect-requires : goal.expect-requires
unfolding add_term bits_from add_cost min_f normalized weight_from of_bits to_bits add mul div lt of_int
expect-requires c = eq-eqb c.one_term.result 0x3f00_0000 c.one_term.ensures

pub expect-requires-2 : goal.expect-requires-2
unfolding add_term bits_from add_cost min_f normalized weight_from of_bits to_bits add mul div lt of_int
expect-requires-2 c = eq-eqb c.one_term-2.result 0x3e80_0000 c.one_term-2.ensures

pub expect-requires-3 : goal.expect-requires-3
unfolding add_term bits_from add_cost min_f normalized weight_from of_bits to_bits add mul div lt of_int
expect-requires-3 c = eq-eqb c.one_term-3.result 0x7f7f_ffff c.one_term-3.ensures

pub expect-requires-4 : goal.expect-requires-4
unfolding add_term bits_from add_cost min_f normalized weight_from of_bits to_bits add mul div lt of_int
expect-requires-4 c = eq-eqb c.one_term-4.result 2 c.one_term-4.ensures

pub expect-requires-5 : goal.expect-requires-5
unfolding add_term bits_from add_cost min_f normalized weight_from of_bits to_bits add mul div lt of_int
expect-requires-5 c = eq-eqb c.one_term-5.result 0x7f80_0000 c.one_term-5.ensures

pub expect-requires-6 : goal.expect-requires-6
unfolding add_term bits_from add_cost min_f normalized weight_from of_bits to_bits add mul div lt of_int
expect-requires-6 c = eq-eqb c.one_term-6.result 0x3f80_0000 c.one_term-6.ensures
