-- Weights from costs and frequencies that are bit patterns: of one use, and of a list of uses made by a rule. Assumes nothing.
use Rattle.std.specs.Prelude.{ℕ, zero, suc, ◌+◌, ◌-◌, ◌*◌, ◌%◌, Bool, cond, eqb, Float}
use Rattle.std.specs.Float.{binary32}
use Rattle.std.specs.Float.Ieee.{of_bits, to_bits}
use Rattle.definition.specs.RegInfo.{zero_f}
use Rattle.definition.specs.Weights.{add_cost}
use Rattle.weights.specs.Costs.{weight_from}

unfoldable pub add_term : Float → ℕ → ℕ → Float
unfolding add_cost of_bits
add_term t c f = add_cost t (of_bits binary32 c) (of_bits binary32 f)

unfoldable pub bits_from : Float → ℕ → ℕ → Bool → ℕ
unfolding to_bits weight_from
bits_from t n k s = to_bits binary32 (weight_from t n k s)

-- use i costs `cost_at i` in a block of frequency `freq_at i`
unfoldable pub cost_at : ℕ → ℕ
cost_at i = cond (eqb (i % 13) 5) 0 (0x3d00_0000 + i * 655361)

abbrev pub freq_at : ℕ → ℕ
freq_at i = 0x40c0_0000 - i * 580031

unfoldable pub sum_terms : ℕ → Float
unfolding add_term cost_at
sum_terms zero = zero_f
sum_terms (suc n) = add_term (sum_terms n) (cost_at n) (freq_at n)
