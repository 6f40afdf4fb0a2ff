-- The calls, and a turn of the sum. Assumes nothing.
use mathlib.Core.Path.{◌≡◌, refl, sym, ap, ◌∙◌, subst}
use Prim.Native.Nat.{ℕ, ◌+◌, ◌≤◌, ◌<◌}
use native.Mathlib.Numerals.{add-one}
use native.Mathlib.Omega.{arith}
use mathlib.Core.Bool.{Bool, false}
use lib.Dec.{T}
use lib.Ieee.{Float, binary32, of_bits, to_bits, add, mul, div, lt, of_int}
use Rattle.definition.specs.Entry.{plain}
use Rattle.definition.specs.Weights.{add_cost, min_f, normalized}
use Rattle.definition.specs.RegInfo.{zero_f}
use Rattle.weights.proofs.Bits.{bits_plain}
use Rattle.weights.specs.Costs.{weight_from}
use Rattle.spill_weight_main.specs.Terms.{add_term, bits_from, cost_at, freq_at, sum_terms}

-- ---- the calls
pub read_plain : (b : ℕ) (x : Float) → b < 0x7f80_0000 → x ≡ of_bits binary32 b → T (plain x)
read_plain b x h e = subst (λ (y : Float). T (plain y)) (sym e) (bits_plain b h)

pub added : (t : Float) (c f : ℕ) {x w r : Float} → x ≡ of_bits binary32 c → w ≡ of_bits binary32 f → r ≡ add_cost t x w → r ≡ add_term t c f
unfolding add_term
added t c f {x} {w} p q e = e ∙ ap (λ (y : Float). add_cost t y w) p ∙ ap (λ (y : Float). add_cost t (of_bits binary32 c) y) q

pub weighed : (t : Float) (n k : ℕ) (s : Bool) {u w : Float} {b : ℕ} → u ≡ t → w ≡ weight_from u n k s → b ≡ to_bits binary32 w → b ≡ bits_from t n k s
unfolding bits_from
weighed t n k s p q e = e ∙ ap (to_bits binary32) (q ∙ ap (λ (y : Float). weight_from y n k s) p)

-- ---- the loop
pub record Summing (n : ℕ) (t : Float) (i : ℕ) : Type 0 where
  pub within : i ≤ n
  pub is : t ≡ sum_terms i

pub start : (n : ℕ) {z : Float} → z ≡ zero_f → Summing n z 0
unfolding sum_terms
start n e = record { within = omega arith; is = e }

pub next : {n : ℕ} {t r : Float} {i c : ℕ} → Summing n t i → i < n → c ≡ cost_at i → r ≡ add_term t c (freq_at i) → Summing n r (i + 1)
unfolding sum_terms
next {n} {t} {r} {i} {c} s h d e = record {
  within = omega arith;
  is = e ∙ ap (λ (x : ℕ). add_term t x (freq_at i)) d ∙ ap (λ (x : Float). add_term x (cost_at i) (freq_at i)) s.is ∙ rw add-one refl;
}

pub done : {n : ℕ} {t : Float} {i : ℕ} → Summing n t i → n ≤ i → t ≡ sum_terms n
done {n} {t} {i} s h =
    let e : i ≡ n = omega arith in
    s.is ∙ ap sum_terms e

-- the weight of the hundred over 37 instructions and k = 5
pub hundred_bits : bits_from (sum_terms 100) 37 5 false ≡ 0x3f14_12d1
unfolding add_term bits_from cost_at sum_terms add_cost min_f normalized weight_from of_bits to_bits add mul div lt of_int
hundred_bits = refl
