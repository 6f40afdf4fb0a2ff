-- Fractions of whole numbers that are near each other, as after m roundings to 24 binary digits; no floats.
-- Assumes nothing.
use mathlib.Core.Path.{◌≡◌}
use mathlib.Core.Logic.{inl, inr}
use Prim.Native.Nat.{ℕ, zero, suc, ◌+◌, ◌-◌, ◌*◌, ◌^◌, ◌≤◌, ◌<◌}
use native.Mathlib.Nat.{le_trans, le_of_eq, add-le-add, mul_comm, mul_assoc, mul_left_comm, mul_right_comm}
use native.Mathlib.Nat.{mul-mul-mul_comm, mul-add, add-mul, mul-pos, mul-le-mul, mul-le-mul_left, mul-le-mul_right}
use native.Mathlib.Nat.{zero-mul, eq-zero-or-pos, le_of_mul-le-mul_right, pow-zero, pow-suc, pow-le-pow_left}
use native.Mathlib.Omega.{arith}
use lib.Dec.{lit<, lit≤}
use lib.Pow.{pow-add}
use Rattle.build_answer.specs.Truth.{distance}

-- the factors of a product, sorted
pub ruleset product = (mul_assoc, mul_comm, mul_left_comm)

-- ---- of fractions with factors: N / C times l / h is at most A / D, and so on

module _ (N C A D B E l h l' h' : ℕ) where
  chain : 0 < D → N * D * l ≤ A * C * h → A * E * l' ≤ B * D * h' → N * E * (l * l') ≤ B * C * (h * h')
  chain d p q =
      let a : N * E * (l * l') * D ≡ N * D * l * (E * l') = simp product in
      let b : A * C * h * (E * l') ≡ A * E * l' * (C * h) = simp product in
      let c : B * C * (h * h') * D ≡ B * D * h' * (C * h) = simp product in
      le_of_mul-le-mul_right (rw (a, c) (le_trans (mul-le-mul_right _ p) (rw b (mul-le-mul_right _ q)))) d

module _ (N C A D M K B E l h l' h' : ℕ) where
  times : N * D * l ≤ A * C * h → M * E * l' ≤ B * K * h' → N * M * (D * E) * (l * l') ≤ A * B * (C * K) * (h * h')
  times p q =
      let a : N * M * (D * E) * (l * l') ≡ N * D * l * (M * E * l') = simp product in
      let b : A * B * (C * K) * (h * h') ≡ A * C * h * (B * K * h') = simp product in
      rw (a, b) (mul-le-mul p q)

module _ (N C A D M K B E l h : ℕ) where
  plus : N * D * l ≤ A * C * h → M * E * l ≤ B * K * h
      → (N * K + M * C) * (D * E) * l ≤ (A * E + B * D) * (C * K) * h
  plus p q =
      let a : (N * K + M * C) * (D * E) * l ≡ N * D * l * (K * E) + M * E * l * (C * D) = simp (add-mul, product) in
      let b : (A * E + B * D) * (C * K) * h ≡ A * C * h * (K * E) + B * K * h * (C * D) = simp (add-mul, product) in
      rw (a, b) (add-le-add (mul-le-mul_right _ p) (mul-le-mul_right _ q))

-- ---- N / C is A / D within m factors of 1 ± 2 ^ -24

pub record Close (m N C A D : ℕ) : Type 0 where
  pub over : N * D * 16777215 ^ m ≤ A * C * 16777216 ^ m
  pub under : A * C * 16777216 ^ m ≤ N * D * 16777217 ^ m

pub close_trans : (m k N C A D B E : ℕ) → 0 < D → Close m N C A D → Close k A D B E → Close (m + k) N C B E
close_trans m k N C A D B E d p q = record {
  over = rw (pow-add 16777215 m k, pow-add 16777216 m k) (chain N C A D B E _ _ _ _ d p.over q.over);
  under =
      rw (pow-add 16777216 m k, pow-add 16777217 m k, mul_comm (16777216 ^ m), mul_comm (16777217 ^ m))
      (chain B E A D N C _ _ _ _ d q.under p.under);
}

pub close_mul : (m k N C A D M K B E : ℕ) → Close m N C A D → Close k M K B E
    → Close (m + k) (N * M) (C * K) (A * B) (D * E)
close_mul m k N C A D M K B E p q = record {
  over = rw (pow-add 16777215 m k, pow-add 16777216 m k) (times N C A D M K B E _ _ _ _ p.over q.over);
  under = rw (pow-add 16777216 m k, pow-add 16777217 m k) (times A D N C B E M K _ _ _ _ p.under q.under);
}

pub close_add : (m N C A D M K B E : ℕ) → Close m N C A D → Close m M K B E
    → Close m (N * K + M * C) (C * K) (A * E + B * D) (D * E)
close_add m N C A D M K B E p q = record {
  over = plus N C A D M K B E _ _ p.over q.over;
  under = plus A D N C B E M K _ _ p.under q.under;
}

-- equal fractions
pub close_same : (N C A D : ℕ) → N * D ≡ A * C → Close 0 N C A D
close_same N C A D e = record { over = le_of_eq (rw e); under = le_of_eq (rw e) }

pub close_zero : (m C D : ℕ) → Close m 0 C 0 D
close_zero m C D = record { over = le_of_eq (simp zero-mul); under = le_of_eq (simp zero-mul) }

-- more factors
close_self : (m N C : ℕ) → Close m N C N C
close_self m N C = record {
  over = mul-le-mul_left (N * C) (pow-le-pow_left (lit≤ tt) m);
  under = mul-le-mul_left (N * C) (pow-le-pow_left (lit≤ tt) m);
}

pub close_more : (m k N C A D : ℕ) → 0 < D → Close m N C A D → Close (m + k) N C A D
close_more m k N C A D d p = close_trans m k N C A D A D d p (close_self k A D)

-- ---- what m factors come to

pos_pow : (a k : ℕ) → 0 < a → 0 < a ^ k
pos_pow a zero h = rw pow-zero (lit< tt)
pos_pow a (suc k) h = rw pow-suc (mul-pos (pos_pow a k h) h)

no_factor : (a c l z : ℕ) → 0 < c → 0 < l → a * c * l ≤ z → z ≡ 0 → a ≡ 0
no_factor a c l z C L h e =
    elim (eq-zero-or-pos a) [
      | inl n ↦ n
      | inr A ↦ omega (arith, mul-pos (mul-pos A C) L)
    ]

-- zero is near zero alone
pub zero_only : (m C A D : ℕ) → 0 < C → Close m 0 C A D → A ≡ 0
zero_only m C A D c p = no_factor A C _ _ c (pos_pow 16777216 m (lit< tt)) p.under (simp zero-mul)

-- and only zero is near zero
pub only_zero : (m N C D : ℕ) → 0 < D → Close m N C 0 D → N ≡ 0
only_zero m N C D d p = no_factor N D _ _ d (pos_pow 16777215 m (lit< tt)) p.over (simp zero-mul)

bernoulli : (m : ℕ) → 16777216 ^ m * (16777216 - m) ≤ 16777215 ^ m * 16777216
bernoulli zero = lit≤ tt
bernoulli (suc m) =
    let fewer : 16777216 * (16777216 - suc m) ≤ (16777216 - m) * 16777215 = omega arith in
    let before = mul-le-mul_right 16777215 (bernoulli m) in
    rw (pow-suc 16777216 m, pow-suc 16777215 m, mul_assoc (16777216 ^ m), mul_right_comm (16777215 ^ m))
    (le_trans (mul-le-mul_left (16777216 ^ m) fewer) (rw (mul_assoc (16777216 ^ m)) at before))

mix : (m : ℕ) → 16777217 ^ m * 16777215 ^ m ≤ 16777216 ^ m * 16777216 ^ m
mix zero = lit≤ tt
mix (suc m) =
    rw (pow-suc 16777217 m, pow-suc 16777215 m, pow-suc 16777216 m)
    (rw (mul-mul-mul_comm (16777217 ^ m), mul-mul-mul_comm (16777216 ^ m)) (mul-le-mul (mix m) (lit≤ tt)))

-- X at most Y up to the factor (1 + 1 / 16777215) ^ m
ratio : (m X Y : ℕ) → X * 16777215 ^ m ≤ Y * 16777216 ^ m → X * (16777216 - m) ≤ Y * 16777216
ratio m X Y h =
    let a : X * (16777216 - m) * 16777216 ^ m ≡ X * (16777216 ^ m * (16777216 - m)) = simp product in
    let b : X * (16777215 ^ m * 16777216) ≡ X * 16777215 ^ m * 16777216 = simp product in
    le_of_mul-le-mul_right
    (rw (a, mul_right_comm Y) (le_trans (mul-le-mul_left X (bernoulli m)) (rw b (mul-le-mul_right 16777216 h))))
    (pos_pow 16777216 m (lit< tt))

-- the factor (1 + 1 / 16777216) ^ m is at most that
turn : (m X Y : ℕ) → Y * 16777216 ^ m ≤ X * 16777217 ^ m → Y * 16777215 ^ m ≤ X * 16777216 ^ m
turn m X Y h =
    le_of_mul-le-mul_right
    (rw (mul_right_comm Y, mul_assoc X)
    (le_trans (mul-le-mul_right (16777215 ^ m) h) (rw (mul_assoc X) (mul-le-mul_left X (mix m)))))
    (pos_pow 16777216 m (lit< tt))

square : (m : ℕ) → m ≤ 8388608 → 16777216 * 8388608 ≤ (8388608 + m) * (16777216 - m)
square m h =
    let d = 8388608 - m in
    let e : 16777216 - m ≡ 8388608 + d = omega arith in
    rw (e, add-mul 8388608 m, mul-add 8388608 8388608 d, mul-add m 8388608 d) (omega arith)

up_bound : (m X Y : ℕ) → m ≤ 8388608 → X * (16777216 - m) ≤ Y * 16777216 → X * 8388608 ≤ Y * (8388608 + m)
up_bound m X Y h p =
    le_of_mul-le-mul_right {k = 16777216 - m}
    (rw (mul_right_comm X, mul_assoc Y)
    (le_trans (mul-le-mul_right 8388608 p) (rw (mul_assoc Y) (mul-le-mul_left Y (square m h)))))
    (omega arith)

pub close_bound : (m N C A D : ℕ) → m ≤ 8388608 → Close m N C A D
    → distance (N * D) (A * C) * 8388608 ≤ m * (A * C)
close_bound m N C A D h p =
    let X = N * D in
    let Y = A * C in
    let a = up_bound m X Y h (ratio m X Y p.over) in
    let b = ratio m Y X (turn m X Y p.under) in
    let k : 16777216 - m + m ≡ 16777216 = omega arith in
    let c : Y * (16777216 - m) + Y * m ≡ Y * 16777216 = rw (← mul-add, k) in
    omega (arith, mul-add Y 8388608 m, mul_comm Y m)
