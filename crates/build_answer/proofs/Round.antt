-- One rounding of a fraction to an f32, where the result is normal and finite: within one part in 2 ^ 24.
-- Assumes nothing.
use mathlib.Core.Path.{◌≡◌, ap, ◌∙◌}
use mathlib.Core.Logic.{◌⊎◌, inl, inr}
use mathlib.Core.Bool.{Bool, true, false, not, ◌&&◌, ◌||◌}
use Prim.Native.Nat.{ℕ, zero, suc, ◌+◌, ◌-◌, ◌*◌, ◌/◌, ◌%◌, ◌^◌, ◌≤◌, ◌<◌, compare, Ordering}
use native.Mathlib.Nat.{le_trans, le_of_eq, eq-zero-or-pos, zero-mul, one-mul, suc-mul, add-zero, mul-one, mul_comm}
use native.Mathlib.Nat.{mul_assoc, add-mul, mul-le-mul, mul-le-mul_right, le_of_mul-le-mul_right, mul-pos}
use native.Mathlib.Nat.{div-add-mod', mod-lt, le-div_iff_mul-le, div-div-eq-div-mul}
use native.Mathlib.Omega.{arith}
use lib.Dec.{T, eqb, is_le, compare_is_eq, leb→le, nleb→lt, eqb→eq, eqb_refl, lit<}
use lib.Arith.{lt_of_le-ne}
use lib.Pow.{pow-add, pow_pos}
use lib.Ieee.{Float, nan, inf, fin, binary32, up, down, size, nearest, round}
use lib.Ieee.Digits.{size_reaches}
use lib.Ieee.Nearest.{closest, nearest-ge}
use lib.Ieee.Order.{drop, kept}
use lib.Ieee.Scale.{grid, finite, round_val, round_under}
use lib.Ieee.Positive.{num, den, den_pos, value→cross}
use Rattle.definition.specs.Weights.{is_zero_f}
use Rattle.build_answer.specs.Truth.{normal, Fine, distance}
use Rattle.build_answer.proofs.Close.{Close, close_trans, close_same, close_zero, product}

-- x is A / D after m roundings
abbrev pub After : ℕ → Float → ℕ → ℕ → Type 0
After m x A D = Close m (num x) (den x) A D

-- ---- what `compare` says (private in lib.Ieee.Nearest)

abbrev Cmp : Ordering → ℕ → ℕ → Type 0
Cmp Ordering.lt a b = a < b
Cmp Ordering.eq a b = a ≡ b
Cmp Ordering.gt a b = b < a

cmp : (a b : ℕ) → Cmp (compare a b) a b
cmp a b = go (compare a b) (leb→le a b) (nleb→lt a b) (eqb→eq a b) (λ (e : a ≡ b). rw e (eqb_refl b))
  where
    go : (o : Ordering) → (T (is_le o) → a ≤ b) → (T (not (is_le o)) → b < a) → (T (compare_is_eq o) → a ≡ b)
        → (a ≡ b → T (compare_is_eq o)) → Cmp o a b
    go Ordering.lt h k e n = lt_of_le-ne (h tt) n
    go Ordering.eq h k e n = e tt
    go Ordering.gt h k e n = k tt

-- ---- the nearest whole number is at most a half away

half_away : (w r b n : ℕ) (o : Ordering) → w * b + r ≡ n → r < b → Cmp o (r * 2) b
    → distance (nearest w o * b) n * 2 ≤ b
half_away w r b n Ordering.lt e l c = omega arith
half_away w r b n Ordering.gt e l c = rw (suc-mul w b) (omega arith)
half_away w r b n Ordering.eq e l c = go (w % 2) (omega arith)
  where
    go : (t : ℕ) → t < 2 → distance ((w + t) * b) n * 2 ≤ b
    go zero h = rw (add-zero w) (omega arith)
    go (suc zero) h = rw (add-mul w 1 b, one-mul b) (omega arith)
    go (suc (suc t)) h = omega arith

closest_near : (n u : ℕ) → 0 < u → distance (closest n u * u) n * 2 ≤ u
closest_near n u h =
    half_away (n / u) (n % u) u n (compare (n % u * 2) u) (div-add-mod' n u) (mod-lt n h) (cmp (n % u * 2) u)

-- ---- where digits are dropped, the kept number has at least p digits (private in lib.Ieee.Order)

kept_ge : (p n c : ℕ) → 0 < p → 0 < drop p n c → 2 ^ (p - 1) ≤ kept p n c
kept_ge p n c P K =
    let k = drop p n c in
    let u = c * 2 ^ k in
    let a = size_reaches (n / c) (p - 1 + k) (all_in_use (size (n / c)) K) in
    let b = (le-div_iff_mul-le (pow_pos k)).1 (rw (pow-add 2 (p - 1) k) at a) in
    le_trans (rw (div-div-eq-div-mul n c (2 ^ k)) at b) (nearest-ge (n / u) (compare (n % u * 2) u))
  where
    all_in_use : (z : ℕ) → 0 < z - p → p - 1 + (z - p) < z
    all_in_use z h = omega arith

-- where the result is normal, it keeps all its digits
kept_full : (p n c : ℕ) → 0 < p → 2 ^ (p - 1) ≤ kept p n c * 2 ^ drop p n c → 2 ^ (p - 1) ≤ kept p n c
kept_full p n c P h =
    elim (eq-zero-or-pos (drop p n c)) [
      | inl z ↦ le_trans h (le_of_eq (ap (λ (k : ℕ). kept p n c * 2 ^ k) z ∙ mul-one (kept p n c)))
      | inr l ↦ kept_ge p n c P l
    ]

-- ---- one rounding, in the format's smallest units: the error is at most 2 ^ -p of the result

grid_near : (p n c : ℕ) → 0 < p → 0 < c → 2 ^ (p - 1) ≤ kept p n c * 2 ^ drop p n c
    → distance (kept p n c * 2 ^ drop p n c * c) n * (2 ^ (p - 1) * 2) ≤ kept p n c * 2 ^ drop p n c * c
grid_near p n c P C h =
    let v = 2 ^ drop p n c in
    join (kept p n c) v (2 ^ (p - 1)) (closest_near n (c * v) (mul-pos C (pow_pos _))) (kept_full p n c P h)
  where
    join : (q v H : ℕ) → distance (q * (c * v)) n * 2 ≤ c * v → H ≤ q → distance (q * v * c) n * (H * 2) ≤ q * v * c
    join q v H a b =
        let e : q * v * c ≡ q * (c * v) = simp product in
        let f : distance (q * (c * v)) n * (H * 2) ≡ H * (distance (q * (c * v)) n * 2) = simp product in
        rw (e, f) (mul-le-mul b a)

-- ---- as fractions

sides : (g n : ℕ) → distance g n * 16777216 ≤ g → (g * 16777215 ≤ n * 16777216) × (n * 16777216 ≤ g * 16777217)
sides g n h = omega arith

grid_close : (a c : ℕ) → 0 < c → 8388608 ≤ grid binary32 a c → Close 1 (grid binary32 a c) (2 ^ 149) a c
grid_close a c C h =
    let s = sides (grid binary32 a c * c) (a * 2 ^ 149) (grid_near 24 (a * 2 ^ 149) c (lit< tt) C h) in
    record { over = s.0; under = s.1 }

-- a value of which 2 ^ 126 times is 1 at least has 2 ^ 23 units at least
full : (x g d : ℕ) → 0 < d → x * 2 ^ 149 ≡ g * d → d ≤ x * 2 ^ 126 → 8388608 ≤ g
full x g d D e h =
    let a : x * 2 ^ 126 * 8388608 ≡ g * d = mul_assoc x (2 ^ 126) 8388608 ∙ e in
    le_of_mul-le-mul_right (rw (mul_comm 8388608 d, ← a) (mul-le-mul_right 8388608 h)) D

normal_finite : (x : Float) → T (normal x) → T (finite x)
normal_finite nan h = h
normal_finite (inf s) h = h
normal_finite (fin s m e) h = tt

normal_num : (x : Float) → T (normal x) → den x ≤ num x * 2 ^ 126
normal_num nan h = absurd h
normal_num (inf s) h = absurd h
normal_num (fin s m e) h = leb→le (down e) (m * up e * 2 ^ 126) h

zero_num : (x : Float) → T (is_zero_f x) → num x ≡ 0
zero_num nan h = absurd h
zero_num (inf s) h = absurd h
zero_num (fin s zero e) h = zero-mul (up e)
zero_num (fin s (suc m) e) h = absurd h

-- what is fine is normal, or zero where its numerator is
abbrev pub Either : Float → ℕ → Type 0
Either x a = T (normal x) ⊎ (T (is_zero_f x) × (a ≡ 0))

pub fine_cases : (x : Float) (a : ℕ) → Fine x a → Either x a
fine_cases x a f = go (normal x) (is_zero_f x) f
  where
    go : (b c : Bool) → T (b || (c && eqb a 0)) → T b ⊎ (T c × (a ≡ 0))
    go true c h = inl tt
    go false true h = inr (tt, eqb→eq a 0 h)
    go false false h = absurd h

-- THE SINGLE ROUNDING
pub round_close : (a c : ℕ) → 0 < c → Either (round binary32 false a c) a → After 1 (round binary32 false a c) a c
round_close a c C f =
    let r = round binary32 false a c in
    let g = grid binary32 a c in
    elim f [
      | inl h ↦
          let v = value→cross r g (2 ^ 149) (round_val binary32 a c (round_under binary32 a c (normal_finite r h))) in
          let near = grid_close a c C (full (num r) g (den r) (den_pos r) v (normal_num r h)) in
          close_trans 0 1 _ _ _ _ _ _ (pow_pos 149) (close_same _ _ _ _ v) near
      | inr h ↦
          rw (zero_num r h.0, h.1) (close_zero 1 _ c)
    ]
