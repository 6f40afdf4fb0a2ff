-- A finite f32 rounds to itself, and adding zero to it changes nothing. Assumes nothing.
use mathlib.Core.Path.{◌≡◌, sym, ◌∙◌}
use mathlib.Core.Bool.{false, ◌&&◌}
use Prim.Native.Nat.{ℕ, zero, suc, ◌+◌, ◌-◌, ◌*◌, ◌%◌, ◌^◌, ◌≤◌, ◌<◌}
use native.Mathlib.Nat.{lt_of_le_of_lt, lt_of_not-le, le_of_lt, not-le_of_lt, zero-mul, add-zero, mul-one, mul_assoc}
use native.Mathlib.Nat.{mul-le-mul, mul-pos, mul-lt-mul_of_pos_right}
use native.Mathlib.Omega.{arith}
use lib.Dec.{T, leb, eqb, ltb, ltb→lt, leb→le, lit<}
use lib.Pow.{pow-add, pow_pos, pow_mono, pow-lt}
use lib.IntN.{ℤ, pos, negsuc}
use lib.Ieee.{Float, fin, binary32, up, down, round, add, fits}
use lib.Ieee.Digits.{back}
use lib.Ieee.Exact.{HasValue, round_exact}
use lib.Ieee.Scale.{round_same}
use lib.Ieee.Fits.{down_pos, and_l, and_r}
use lib.Ieee.Positive.{num, den, value→cross}
use Rattle.definition.specs.Entry.{plain}
use Rattle.build_answer.proofs.Close.{close_same, product}
use Rattle.build_answer.proofs.Round.{After}
use Rattle.build_answer.proofs.Ops.{both_plain}

-- the bounds of an f32 that is not zero: its digits, its exponent, its size
pub fits_parts : (m : ℕ) (e : ℤ) → T (fits binary32 (fin false (suc m) e))
    → (suc m < 16777216) × (down e ≤ 2 ^ 149) × (suc m * up e < 2 ^ 128 * down e)
unfolding fits
fits_parts m e f =
    let o = eqb (suc m % 2) 1 in
    let a = ltb (suc m) 16777216 in
    let d = leb (down e) (2 ^ 149) in
    let b = ltb (suc m * up e) (2 ^ 128 * down e) in
    let g = and_l (o && a && d) b f in
    (ltb→lt _ _ (and_r o a (and_l (o && a) d g)), leb→le _ _ (and_r (o && a) d g), ltb→lt _ _ (and_r (o && a && d) b f))

small_exp : (k : ℕ) → 2 ^ suc k ≤ 2 ^ 149 → suc k ≤ 149
small_exp k h = lt_of_not-le (λ (g : 149 ≤ k). not-le_of_lt (pow-lt {i = 149} {j = suc k} (omega arith)) h)

-- m * 2 ^ e, rounded, is itself
exact_by : (m : ℕ) (e : ℤ) → m < 16777216 → down e ≤ 2 ^ 149 → m * up e < 2 ^ 128 * down e
    → HasValue (round binary32 false (m * up e) (down e)) false (m * up e) (down e)
exact_by m (pos k) a l b =
    let e : m * 2 ^ k * 2 ^ 149 ≡ m * 2 ^ (k + 149) = rw (pow-add 2 k 149, mul_assoc m) in
    let c = mul-lt-mul_of_pos_right {k = 2 ^ 149} b (pow_pos 149) in
    round_exact binary32 false (m * 2 ^ k) 1 m (k + 149) (lit< tt) a (rw e at c) (e ∙ sym (mul-one _))
exact_by m (negsuc k) a l b =
    let h = small_exp k l in
    let j = 149 - suc k in
    let i : j ≤ 149 = omega arith in
    let c : m * 2 ^ j < 2 ^ 128 * 2 ^ 149 = lt_of_le_of_lt (mul-le-mul (le_of_lt a) (pow_mono i)) (lit< tt) in
    let e : m * 2 ^ j * 2 ^ suc k ≡ m * 2 ^ 149 = rw (mul_assoc m, ← pow-add 2 j (suc k), back 149 (suc k) h) in
    round_exact binary32 false (m * 1) (2 ^ suc k) m j (pow_pos (suc k)) a c (rw mul-one (sym e))

-- a finite f32, rounded, is itself
exact_self : (m : ℕ) (e : ℤ) → T (fits binary32 (fin false m e))
    → HasValue (round binary32 false (m * up e) (down e)) false (m * up e) (down e)
exact_self zero e f =
    rw (zero-mul (up e)) (round_exact binary32 false 0 (down e) 0 0 (down_pos e) (lit< tt) (lit< tt) (simp zero-mul))
exact_self (suc m) e f = let b = fits_parts m e f in exact_by (suc m) e b.0 b.1 b.2

pub add_exact : (t y : Float) → T (plain t) → T (plain y) → T (fits binary32 t) → num y ≡ 0
    → After 0 (add binary32 t y) (num t) (den t)
unfolding add
add_exact =
    both_plain _ (λ m e n d f z.
    let a = m * up e * down d + n * up d * down e in
    let c : a * down e ≡ m * up e * (down e * down d) = rw (z, zero-mul (down e), add-zero) (simp product) in
    let r = round_same binary32 false a _ (m * up e) _ (mul-pos (down_pos e) (down_pos d)) (down_pos e) c in
    rw r (close_same _ _ _ _ (value→cross (round binary32 false (m * up e) (down e)) _ (down e) (exact_self m e f))))
