-- What the bound says of two weights: far enough apart, the exact fractions stand in the same order. Assumes nothing.
use mathlib.Core.Path.{◌≡◌}
use Prim.Native.Nat.{ℕ, ◌+◌, ◌-◌, ◌*◌, ◌^◌, ◌≤◌, ◌<◌}
use native.Mathlib.Nat.{le_trans, lt_of_not-le, not-le_of_lt, mul_comm, add-mul, mul-sub, mul-pos, mul-le-mul_right}
use native.Mathlib.Nat.{le_of_mul-le-mul_right}
use native.Mathlib.Omega.{arith}
use lib.Dec.{lit<}
use lib.Pow.{pow_pos}
use lib.Ieee.{Float}
use lib.Ieee.Positive.{num, den}
use Rattle.build_answer.specs.Truth.{distance, Near, FarAbove, MoreExact}
use Rattle.build_answer.proofs.Close.{product}

-- X within m parts in K of Y
module _ (X Y m K : ℕ) (h : distance X Y * K ≤ m * Y) where
  over : X * K ≤ (K + m) * Y
  over =
      let a : X ≤ Y + distance X Y = omega arith in
      omega (arith, rw (add-mul Y (distance X Y) K) at (mul-le-mul_right K a), add-mul K m Y, mul_comm K Y)

  under : Y * (K - m) ≤ X * K
  under =
      let a : Y ≤ X + distance X Y = omega arith in
      rw (mul-sub Y K m) (omega (arith, rw (add-mul X (distance X Y) K) at (mul-le-mul_right K a), mul_comm Y m))

-- N / C and M / D are the weights, S / (Q * a) and R / (Q * b) the exact fractions
module _ (K Q N C M D S R a b m n : ℕ) where
  behind : N * (Q * a) * K ≤ (K + m) * (S * C) → R * D * (K - n) ≤ M * (Q * b) * K → S * b ≤ R * a
      → 0 < Q * a * b * K → N * D * (K - n) ≤ M * C * (K + m)
  behind x y z p =
      let e₁ : N * D * (K - n) * (Q * a * b * K) ≡ N * (Q * a) * K * (D * b * (K - n)) = simp product in
      let e₂ : (K + m) * (S * C) * (D * b * (K - n)) ≡ S * b * ((K + m) * C * D * (K - n)) = simp product in
      let e₃ : R * a * ((K + m) * C * D * (K - n)) ≡ R * D * (K - n) * ((K + m) * C * a) = simp product in
      let e₄ : M * C * (K + m) * (Q * a * b * K) ≡ M * (Q * b) * K * ((K + m) * C * a) = simp product in
      let top = le_trans (rw e₂ at (mul-le-mul_right (D * b * (K - n)) x)) (mul-le-mul_right _ z) in
      le_of_mul-le-mul_right (rw (e₁, e₄) (le_trans (rw e₃ at top) (mul-le-mul_right _ y))) p

-- WHAT A RANK IS WORTH: weights that are that far apart have their exact fractions in the same order.
-- Rules out: the rule with one side's allowance alone; W1 > W2 as enough.
pub rank_true : (n₁ n₂ : ℕ) (w₁ w₂ : Float) (s₁ s₂ d₁ d₂ : ℕ) → 0 < d₁ → 0 < d₂ → Near n₁ w₁ s₁ d₁ → Near n₂ w₂ s₂ d₂
    → FarAbove n₁ w₁ n₂ w₂ → MoreExact s₁ d₁ s₂ d₂
rank_true n₁ n₂ w₁ w₂ s₁ s₂ d₁ d₂ p₁ p₂ h₁ h₂ far =
    lt_of_not-le (λ (z : s₁ * d₂ ≤ s₂ * d₁).
    not-le_of_lt far
    (behind (2 ^ 23) (2 ^ 447) (num w₁) (den w₁) (num w₂) (den w₂) s₁ s₂ d₁ d₂ (n₁ + 3) (n₂ + 3)
    (over _ _ (n₁ + 3) (2 ^ 23) h₁) (under _ _ (n₂ + 3) (2 ^ 23) h₂) z
    (mul-pos (mul-pos (mul-pos (pow_pos 447) p₁) p₂) (lit< tt))))
