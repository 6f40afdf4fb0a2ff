-- A finite f32 is at most `f32::MAX`. Assumes nothing.
use mathlib.Core.Path.{◌≡◌}
use mathlib.Core.Logic.{inl, inr}
use mathlib.Core.Bool.{true, false}
use Prim.Native.Nat.{ℕ, zero, suc, ◌-◌, ◌*◌, ◌^◌, ◌≤◌, ◌<◌}
use native.Mathlib.Nat.{le_of_suc-le-suc, le_of_lt, le_trans, eq-zero-or-pos, zero-mul, mul-one, mul_assoc, mul-pos}
use native.Mathlib.Nat.{mul-le-mul, mul-le-mul_right, lt_of_mul-lt-mul_right}
use native.Mathlib.Omega.{arith}
use lib.Dec.{T, lit<, lit≤}
use borrow.Author.Tests.{le-ltb}
use lib.Pow.{pow-add, pow_pos, pow_mono}
use lib.IntN.{ℤ, pos, negsuc}
use lib.Ieee.{Float, nan, inf, fin, binary32, up, down, lt, fits}
use lib.Ieee.Digits.{back}
use lib.Ieee.Fits.{down_pos}
use Rattle.definition.specs.Entry.{plain}
use Rattle.definition.specs.Weights.{max_f}
use Rattle.build_answer.proofs.Exact.{fits_parts}

-- with an exponent above 104 the value is a multiple of 2 ^ 104, and below 16777216 of them
whole_case : (m k : ℕ) → m < 16777216 → m * 2 ^ k < 2 ^ 128 → m * 2 ^ k ≤ 16777215 * 2 ^ 104
whole_case m k a b =
    elim (eq-zero-or-pos (k - 104)) [
      | inl z ↦ let l : k ≤ 104 = omega arith in mul-le-mul (le_of_suc-le-suc a) (pow_mono l)
      | inr l ↦
          let j = k - 104 in
          let e : m * 2 ^ j * 2 ^ 104 ≡ m * 2 ^ k = rw (mul_assoc m, ← pow-add 2 j 104, back k 104 (omega arith)) in
          let c : m * 2 ^ j < 16777216 = lt_of_mul-lt-mul_right (2 ^ 104) (rw e b) in
          rw (← e) (mul-le-mul_right (2 ^ 104) (le_of_suc-le-suc c))
    ]

under_max : (m : ℕ) (e : ℤ) → m < 16777216 → m * up e < 2 ^ 128 * down e → m * up e * 1 ≤ 16777215 * 2 ^ 104 * down e
under_max m (pos k) a b = rw (mul-one (m * 2 ^ k)) (whole_case m k a b)
under_max m (negsuc k) a b =
    let c : m * 1 ≤ 16777215 * 2 ^ 104 = rw (mul-one m) (le_trans (le_of_lt a) (lit≤ tt)) in
    mul-le-mul c (pow_pos (suc k))

pub at_most_max : (x : Float) → T (fits binary32 x) → T (plain x) → lt max_f x ≡ false
unfolding lt
at_most_max nan f p = absurd p
at_most_max (inf s) f p = absurd p
at_most_max (fin true m e) f p = absurd p
at_most_max (fin false zero e) f p =
    le-ltb _ (0 * up e * 1) (rw (zero-mul (up e)) (le_of_lt (mul-pos (lit< tt) (down_pos e))))
at_most_max (fin false (suc m) e) f p = let b = fits_parts m e f in le-ltb _ _ (under_max (suc m) e b.0 b.2)
