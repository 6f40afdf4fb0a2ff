-- What is printed is read back: once over the base, then for decimal numbers and masks. Assumes nothing.
use Rattle.std.specs.Prelude.{◌≡◌, refl, List, [], ◌∷◌, ◌++◌, map, Bool, true, false, cond, ◌&&◌, length, ltb}
use Rattle.std.proofs.Common.{sym, ap, ◌∙◌, pow-suc, div-lt_iff_lt-mul, le-div_iff_mul-le, div-add-mod', mod-lt, mod-eq_of_lt, div-one, mul_comm, length-append, ltb-true, ltb-false, lt-ltb, le-ltb, le-leb, eq-eqb}
use Rattle.std.proofs.Math.Option.{some}
use Prim.Native.Nat.{ℕ, zero, suc, ◌+◌, ◌-◌, ◌*◌, ◌/◌, ◌%◌, ◌^◌, ◌≤◌, ◌<◌}
use native.Mathlib.Omega.{arith}
use Rattle.std.proofs.Math.Nat.{pow-zero, div-div-eq-div-mul, pow-le-pow_right}
use Rattle.definition.specs.Text.{digit_of, value_from, all_below, no_leading_zero, read_number, read_bits, glyph, digits, places, decimal, eight_digits}
use Rattle.io.specs.Digits.{IsDigitCount}
use Rattle.lines.specs.Places.{fewest_decimal}

digit_glyph : (d : ℕ) → d < 16 → digit_of (glyph d) ≡ d
unfolding digit_of
digit_glyph d h = go (ltb d 10) refl
  where
    go : (t : Bool) → ltb d 10 ≡ t → digit_of (cond t (48 + d) (87 + d)) ≡ d
    go true e =
        let g : d < 10 = ltb-true d 10 e in
        let t₁ : ltb (48 + d) 48 ≡ false = le-ltb (48 + d) 48 (omega arith) in
        let t₂ : ltb (48 + d) 58 ≡ true = lt-ltb (48 + d) 58 (omega arith) in
        simp (t₁, t₂) (omega arith)
    go false e =
        let g : 10 ≤ d = ltb-false d 10 e in
        let t₁ : ltb (87 + d) 48 ≡ false = le-ltb (87 + d) 48 (omega arith) in
        let t₂ : ltb (87 + d) 58 ≡ false = le-ltb (87 + d) 58 (omega arith) in
        let t₃ : ltb (87 + d) 97 ≡ false = le-ltb (87 + d) 97 (omega arith) in
        let t₄ : ltb (87 + d) 103 ≡ true = lt-ltb (87 + d) 103 (omega arith) in
        simp (t₁, t₂, t₃, t₄) (omega arith)

map_snoc : (xs : List ℕ) (x : ℕ) → map digit_of (xs ++ (x ∷ [])) ≡ map digit_of xs ++ (digit_of x ∷ [])
map_snoc [] x = refl
map_snoc (y ∷ ys) x = ap (λ l. digit_of y ∷ l) (map_snoc ys x)

value_snoc : (b v : ℕ) (xs : List ℕ) (d : ℕ) → value_from b v (xs ++ (d ∷ [])) ≡ value_from b v xs * b + d
unfolding value_from
value_snoc b v [] d = refl
value_snoc b v (x ∷ xs) d = value_snoc b (v * b + x) xs d

below_snoc : (b : ℕ) (xs : List ℕ) (x : ℕ) → all_below b xs ≡ true → ltb x b ≡ true → all_below b (xs ++ (x ∷ [])) ≡ true
below_snoc b [] x e f = rw f
below_snoc b (y ∷ ys) x e f = go (ltb y b) e (below_snoc b ys x)
  where
    go : (t : Bool) → t && all_below b ys ≡ true → (all_below b ys ≡ true → ltb x b ≡ true → all_below b (ys ++ (x ∷ [])) ≡ true) → t && all_below b (ys ++ (x ∷ [])) ≡ true
    go true h ih = ih h f
    go false h ih = h

length_digits : (b k n : ℕ) → length (digits b k n) ≡ k
length_digits b zero n = refl
length_digits b (suc k) n = length-append (digits b k (n / b)) (glyph (n % b) ∷ []) ∙ (let e : length (digits b k (n / b)) ≡ k = length_digits b k (n / b) in omega arith)

module _ (b : ℕ) (z : 0 < b) (h : b ≤ 16) where
  last_digit : (n : ℕ) → digit_of (glyph (n % b)) ≡ n % b
  last_digit n = let e : n % b < b = mod-lt n z in digit_glyph (n % b) (omega arith)

  -- the law over the base
  pub round_value : (k n : ℕ) → n < b ^ k → value_from b 0 (map digit_of (digits b k n)) ≡ n
  unfolding value_from
  round_value zero n g = let e : b ^ 0 ≡ 1 = pow-zero b in omega arith
  round_value (suc k) n g =
      let g' : n < b ^ k * b = rw (← pow-suc) g in
      let ih : value_from b 0 (map digit_of (digits b k (n / b))) ≡ n / b = round_value k (n / b) ((div-lt_iff_lt-mul z).1 g') in
      rw (map_snoc (digits b k (n / b)) (glyph (n % b)), value_snoc b 0 (map digit_of (digits b k (n / b))) (digit_of (glyph (n % b))), ih, last_digit n) (div-add-mod' n b)

  pub round_below : (k n : ℕ) → all_below b (map digit_of (digits b k n)) ≡ true
  round_below zero n = refl
  round_below (suc k) n =
      let e : n % b < b = mod-lt n z in
      rw (map_snoc (digits b k (n / b)) (glyph (n % b)), last_digit n) (below_snoc b (map digit_of (digits b k (n / b))) (n % b) (round_below k (n / b)) (lt-ltb (n % b) b e))

  pub digits_cons : (k n : ℕ) → digits b (suc k) n ≡ glyph (n / b ^ k % b) ∷ digits b k n
  digits_cons zero n = rw (pow-zero, div-one)
  digits_cons (suc k) n =
      let e : n / b / b ^ k ≡ n / b ^ suc k = div-div-eq-div-mul n b (b ^ k) ∙ ap (λ (m : ℕ). n / m) (mul_comm b (b ^ k) ∙ sym (pow-suc b k)) in
      ap (λ l. l ++ (glyph (n % b) ∷ [])) (digits_cons k (n / b)) ∙ ap (λ (m : ℕ). glyph (m % b) ∷ digits b (suc k) n) e

  round_plain : (k n : ℕ) → 1 ≤ k → n < b ^ k → (1 < k → b ^ (k - 1) ≤ n) → no_leading_zero (map digit_of (digits b k n)) ≡ true
  round_plain zero n l g f = absurd (omega arith)
  round_plain (suc zero) n l g f = refl
  round_plain (suc (suc k)) n l g f =
      let e₁ : suc (suc k) - 1 ≡ suc k = omega arith in
      let f' : b ^ suc k ≤ n = rw e₁ at (f (omega arith)) in
      let p₀ : b ^ 0 ≤ b ^ suc k = pow-le-pow_right z (omega arith) in
      let p₁ : b ^ 0 ≡ 1 = pow-zero b in
      let p : 0 < b ^ suc k = omega arith in
      let q : 1 * b ^ suc k ≤ n = omega arith in
      let u : 1 ≤ n / b ^ suc k = (le-div_iff_mul-le p).1 q in
      let g' : n < b * b ^ suc k = rw (mul_comm b (b ^ suc k), ← pow-suc) g in
      let v : n / b ^ suc k < b = (div-lt_iff_lt-mul p).1 g' in
      let w : n / b ^ suc k % b ≡ n / b ^ suc k = mod-eq_of_lt v in
      let d : digit_of (glyph (n / b ^ suc k % b)) ≡ n / b ^ suc k % b = digit_glyph (n / b ^ suc k % b) (omega arith) in
      rw (digits_cons (suc k) n, digits_cons k n, d, w) (lt-ltb 0 (n / b ^ suc k) u)

length-map : (xs : List ℕ) → length (map digit_of xs) ≡ length xs
length-map [] = refl
length-map (x ∷ xs) = ap suc (length-map xs)

-- eight digits
round_width : (n k : ℕ) → k ≡ 8 → n < 16 ^ k → read_bits (digits 16 k n) ≡ some n
unfolding read_bits
round_width n k e h =
    rw (length-map (digits 16 k n), length_digits 16 k n, eq-eqb k 8 e, round_below 16 (omega arith) (omega arith) k n, round_value 16 (omega arith) (omega arith) k n h)

pub round_mask : (n : ℕ) → n < 4294967296 → read_bits (eight_digits n) ≡ some n
unfolding eight_digits
round_mask n h = round_width n 8 refl (omega arith)

-- decimal numbers, at their fewest digits
pub round_digits : (most n k : ℕ) → n ≤ most → IsDigitCount 10 1 n k → read_number most (digits 10 k n) ≡ some n
unfolding read_number
round_digits most n k h f =
    rw (
      round_below 10 (omega arith) (omega arith) k n,
      round_plain 10 (omega arith) (omega arith) k n f.0 f.1 f.2,
      round_value 10 (omega arith) (omega arith) k n f.1,
      le-leb n most h,
    )

pub round_number : (most n : ℕ) → n ≤ most → read_number most (decimal n) ≡ some n
unfolding decimal
round_number most n h = round_digits most n (places 10 n n) h (fewest_decimal n)

-- the number that a text spells
pub spells : (n : ℕ) → value_from 10 0 (map digit_of (decimal n)) ≡ n
unfolding decimal
spells n = round_value 10 (omega arith) (omega arith) (places 10 n n) n (fewest_decimal n).1

pub spells_bits : (n : ℕ) → n < 4294967296 → value_from 16 0 (map digit_of (eight_digits n)) ≡ n
unfolding eight_digits
spells_bits n h = width 8 refl
  where
    width : (k : ℕ) → k ≡ 8 → value_from 16 0 (map digit_of (digits 16 k n)) ≡ n
    width k e = round_value 16 (omega arith) (omega arith) k n (let p : 16 ^ k ≡ 16 ^ 8 = ap (λ (j : ℕ). 16 ^ j) e in omega arith)
