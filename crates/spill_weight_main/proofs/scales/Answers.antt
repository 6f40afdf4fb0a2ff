use mathlib.Core.Path.{◌≡◌, refl, sym, ap, ◌∙◌, subst}
use borrow.Author.Tests.{eq-eqb}
use lib.Dec.{T}
use Prim.Native.Nat.{ℕ}
use lib.Ieee.{Float, binary32, of_bits, to_bits, add, mul}
use Rattle.definition.specs.declared.Options.{Options}
use Rattle.definition.specs.declared.Remat.{Remat}
use Rattle.definition.specs.declared.Remat.TheVariants.{CheaperThanLoad, Indirect}
use Rattle.definition.specs.Entry.{small}
use Rattle.definition.specs.Weights.{scaled, add_cost}
use Rattle.weights.specs.Costs.{base_cost, SmallScales}
use Rattle.spill_weight_main.proofs.scales.Goals as goal

-- `spill_weight_main::scales` meets its contract: each sum computed. Assumes nothing.

abbrev options : Options
options = record { adjust = 0; cheaper_than_move = of_bits binary32 0x3dcc_cccd; cheaper_than_load = of_bits binary32 0x3e80_0000; indirect = of_bits binary32 0x3f80_0000 }

scales_small : SmallScales options
unfolding small of_bits
scales_small = record { move_small = tt; load_small = tt; indirect_small = tt }

-- a sum s to which a use of cost x comes, where s and x are known
sum_of : (t w : Float) (m : Remat) {s x y r : Float} {b : ℕ} → s ≡ t → x ≡ y → r ≡ add_cost s (scaled options m x) w → b ≡ to_bits binary32 r
    → b ≡ to_bits binary32 (add_cost t (scaled options m y) w)
sum_of t w m {s} {x} {y} o p q e =
    e ∙ ap (to_bits binary32) (q ∙ ap (λ (z : Float). add_cost z (scaled options m x) w) o ∙ ap (λ (z : Float). add_cost t (scaled options m z) w) p)

pub invariant_of-tenth : goal.invariant_of-tenth
unfolding of_bits
invariant_of-tenth c = record { nonneg = tt }

pub invariant_of-cost : goal.invariant_of-cost
unfolding small of_bits
invariant_of-cost c = record { small = tt }

pub invariant_of-seven : goal.invariant_of-seven
unfolding of_bits
invariant_of-seven c = record { plain = tt }

pub invariant_of-tiny : goal.invariant_of-tiny
unfolding small of_bits
invariant_of-tiny c = record { small = subst (λ (x : Float). T (small x)) (sym c.float_of-least.ensures.0) tt }

pub invariant_of-most : goal.invariant_of-most
unfolding of_bits
invariant_of-most c = record { plain = tt }

pub invariant_of-free : goal.invariant_of-free
unfolding small of_bits
invariant_of-free c = record { small = tt }

pub add_use-scaled-requires : goal.add_use-scaled-requires
unfolding of_bits
add_use-scaled-requires c = scales_small

pub expect-requires : goal.expect-requires
unfolding add_cost scaled of_bits to_bits add mul
expect-requires c = eq-eqb c.bits_of.result 0x4013_24b2 (c.bits_of.ensures.0 ∙ ap (to_bits binary32) c.add_use-scaled.ensures)

pub add_use-skipped-requires : goal.add_use-skipped-requires
unfolding of_bits
add_use-skipped-requires c = scales_small

pub expect-requires-2 : goal.expect-requires-2
unfolding add_cost scaled of_bits to_bits add mul
expect-requires-2 c = eq-eqb c.bits_of-2.result 0x3dcc_cccd (sum_of _ _ CheaperThanLoad refl c.float_of-least.ensures.0 c.add_use-skipped.ensures c.bits_of-2.ensures.0)

pub add_use-used-requires : goal.add_use-used-requires
unfolding of_bits
add_use-used-requires c = scales_small

pub expect-requires-3 : goal.expect-requires-3
unfolding base_cost add_cost scaled of_bits to_bits add mul
expect-requires-3 c = eq-eqb c.bits_of-3.result 0x3f00_0000 (sum_of _ _ Indirect c.zero.ensures c.base_cost-conflict.ensures c.add_use-used.ensures c.bits_of-3.ensures.0)
