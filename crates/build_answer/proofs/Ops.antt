-- The operations of a weight, each one rounding of the exact fraction; and the counts and f32s, which are exact.
-- Assumes nothing.
use mathlib.Core.Path.{◌≡◌, sym, ap, ◌∙◌, subst}
use mathlib.Core.Logic.{inl, inr}
use mathlib.Core.Bool.{true, false}
use Prim.Native.Nat.{ℕ, ◌+◌, ◌*◌, ◌^◌, ◌≤◌, ◌<◌}
use native.Mathlib.Nat.{zero-mul, mul_comm, mul-pos}
use native.Mathlib.Omega.{arith}
use lib.Dec.{T, eqb, ltb→lt, eqb→eq, not_T}
use lib.Arith.{lt_of_le-ne}
use lib.IntN.{ℤ, pos}
use lib.Ieee.{Float, nan, inf, fin, binary32, up, down, round, add, mul, div, of_int, of_bits, to_bits, fits}
use lib.Ieee.Fits.{down_pos, up_pos}
use lib.Ieee.Bits.{cond_no}
use lib.Ieee.Back.{round_whole}
use lib.Ieee.Positive.{num, den, value→cross, positive}
use Rattle.definition.specs.Entry.{plain}
use Rattle.weights.proofs.Nonneg.{plain_nonneg}
use Rattle.weights.proofs.Bits.{whole, bits_value, weight_bits, inf_bits}
use Rattle.build_answer.specs.Truth.{Fine, fine_mul, fine_add, fine_div, units}
use Rattle.build_answer.proofs.Close.{Close, close_same}
use Rattle.build_answer.proofs.Round.{After, fine_cases, round_close}

-- what holds of all `fin false m e` holds of what is plain
module _ (P : Float → Float → Type 0) (h : (m : ℕ) (e : ℤ) (n : ℕ) (d : ℤ) → P (fin false m e) (fin false n d)) where
  pub both_plain : (x y : Float) → T (plain x) → T (plain y) → P x y
  both_plain nan y p q = absurd p
  both_plain (inf s) y p q = absurd p
  both_plain (fin true m e) y p q = absurd p
  both_plain (fin false m e) nan p q = absurd q
  both_plain (fin false m e) (inf s) p q = absurd q
  both_plain (fin false m e) (fin true n d) p q = absurd q
  both_plain (fin false m e) (fin false n d) p q = h m e n d

-- ---- what is rounded once

-- a stands for b in what is fine
round_fine : (a b c : ℕ) → 0 < c → (a ≡ 0 → b ≡ 0) → Fine (round binary32 false b c) a
    → After 1 (round binary32 false b c) b c
round_fine a b c C z f =
    let r = round binary32 false b c in
    round_close b c C (elim (fine_cases r a f) [ inl h ↦ inl h | inr h ↦ inr (h.0, z h.1) ])

pub mul_close : (x y : Float) → T (plain x) → T (plain y) → T (fine_mul x y)
    → After 1 (mul binary32 x y) (num x * num y) (den x * den y)
unfolding mul
mul_close = both_plain _ (λ m e n d. round_fine _ _ _ (mul-pos (down_pos e) (down_pos d)) (λ z. z))

both_zero : (a b c d : ℕ) → a + b ≡ 0 → a * c + b * d ≡ 0
both_zero a b c d h =
    let x : a ≡ 0 = omega arith in
    let y : b ≡ 0 = omega arith in
    rw (x, y, zero-mul c, zero-mul d)

pub add_close : (x y : Float) → T (plain x) → T (plain y) → T (fine_add x y)
    → After 1 (add binary32 x y) (num x * den y + num y * den x) (den x * den y)
unfolding add
add_close =
    both_plain _ (λ m e n d. round_fine _ _ _ (mul-pos (down_pos e) (down_pos d)) (both_zero (m * up e) (n * up d) _ _))

div_is : (m : ℕ) (e : ℤ) (n : ℕ) (d : ℤ) → 0 < n
    → div binary32 (fin false m e) (fin false n d) ≡ round binary32 false (m * up e * down d) (n * up d * down e)
unfolding div
div_is m e n d h = cond_no (eqb n 0) _ _ (not_T (eqb n 0) (λ t. let z = eqb→eq n 0 t in omega arith))

pub div_close : (x y : Float) → T (plain x) → T (positive y) → T (fine_div x y)
    → After 1 (div binary32 x y) (num x * den y) (den x * num y)
div_close nan y p q f = absurd p
div_close (inf s) y p q f = absurd p
div_close (fin true m e) y p q f = absurd p
div_close (fin false m e) nan p q f = absurd q
div_close (fin false m e) (inf t) p q f = absurd q
div_close (fin false m e) (fin true n d) p q f = absurd q
div_close (fin false m e) (fin false n d) p q f =
    let h : 0 < n = ltb→lt 0 n q in
    let E = div_is m e n d h in
    let zero : m * up e ≡ 0 → m * up e * down d ≡ 0 = λ z. rw (z, zero-mul (down d)) in
    rw (E, mul_comm (down e) (n * up d))
    (round_fine _ _ _ (mul-pos (mul-pos h (up_pos d)) (down_pos e)) zero (rw E at f))

-- ---- what is exact

pub count_value : (n : ℕ) → n ≤ 16777216
    → Close 0 (den (of_int binary32 (pos n))) (num (of_int binary32 (pos n))) 1 n
unfolding of_int
count_value n h =
    let r = round binary32 false n 1 in
    let v : num r * 1 ≡ n * den r = value→cross r n 1 (round_whole binary32 false n h) in
    close_same (den r) (num r) 1 n (mul_comm (den r) n ∙ sym v ∙ mul_comm (num r) 1)

-- a finite f32 is its units
pub units_close : (x : Float) → T (plain x) → T (fits binary32 x) → After 0 x (units x) (2 ^ 149)
unfolding units
units_close x p f =
    let w = weight_bits x (plain_nonneg x p, f) in
    let b = to_bits binary32 x in
    let infinite : b ≡ 2139095040 → x ≡ inf false = λ e. sym w.1 ∙ ap (of_bits binary32) e ∙ inf_bits in
    let n : b ≡ 2139095040 → ⊥ = λ e. subst (λ (y : Float). T (plain y)) (infinite e) p in
    let v = value→cross (of_bits binary32 b) (whole b) (2 ^ 149) (bits_value b (lt_of_le-ne w.0 n)) in
    subst (λ (y : Float). After 0 y (whole b) (2 ^ 149)) w.1 (close_same _ _ _ _ v)
