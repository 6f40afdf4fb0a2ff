-- Bit patterns and the values that they stand for, from +0 up to +∞: the order, the entry rules, and that products of small values are finite. Assumes nothing.
use mathlib.Core.Path.{◌≡◌, refl, sym, ap, ◌∙◌, subst}
use mathlib.Core.Logic.{◌⊎◌, inl, inr}
use Prim.Native.Nat.{ℕ, zero, suc, ◌+◌, ◌*◌, ◌/◌, ◌%◌, ◌^◌, ◌≤◌, ◌<◌}
use native.Mathlib.Nat.{le_trans, le_of_eq, le_of_lt, lt_of_lt_of_le, lt_of_le_of_lt, lt_of_mul-lt-mul_right, not-le_of_lt, eq-or-lt_of_le, mul-one, mul_comm, mul_assoc, mul_right_comm, mul-mul-mul_comm, mul-le-mul, mul-le-mul_right, mul-lt-mul_of_pos_right, le_of_mul-le-mul_right, mul-pos, pow-suc}
use native.Mathlib.Omega.{arith}
use Rattle.std.specs.Prelude.{min}
use Rattle.std.proofs.Math.Nat.{min-le_left, min-eq_left, min-eq_right}
use mathlib.Core.Bool.{Bool, true, false, not, cond, ◌&&◌, ◌||◌}
use lib.Dec.{T, leb, eqb, ltb, ltb→lt, lt→ltb, eqb→eq, leb→le, le→leb, nleb→lt, not_T, lit<}
use lib.Pow.{pow_pos, pow_mono}
use borrow.Author.Tests.{ltb-true, ltb-false, le-leb, lt-leb}
use lib.IntN.{pos}
use lib.Ieee.{Float, nan, inf, fin, binary32, up, down, round, odd, mul, lt, le, of_bits, of_fields, to_bits, fits, nan_bits}
use lib.Ieee.Bits.{of_bits-to_bits, of_bits-fits, to_bits-of_bits, to_bits-lt, nan_bits_is, is_true, is_false}
use lib.Ieee.Exact.{HasValue, odd_sign}
use lib.Ieee.Fits.{and_l, and_r, and_i, eq→eqb}
use lib.Ieee.Order.{round_mono}
use lib.Ieee.Positive.{num, den, den_pos, value→cross}
use Rattle.definition.specs.Entry.{plain, small}
use Rattle.definition.specs.Weights.{min_f}
use Rattle.weights.specs.Nonneg.{nonneg, Weight}
use Rattle.weights.proofs.Nonneg.{plain_nonneg, nonneg_number, odd_plain, round_nonneg}

-- two tests that follow from each other
pub same_test : (p q : Bool) → (T p → T q) → (T q → T p) → p ≡ q
same_test true true f g = refl
same_test true false f g = absurd (f tt)
same_test false true f g = absurd (g tt)
same_test false false f g = refl

-- a test that fails and passes
both : (b : Bool) → T (not b) → T b → ⊥
both true n t = n
both false n t = t

le_or_lt : (b a : ℕ) → (b ≤ a) ⊎ (a < b)
le_or_lt b a = go (leb b a) (leb→le b a) (nleb→lt b a)
  where
    go : (t : Bool) → (T t → b ≤ a) → (T (not t) → a < b) → (b ≤ a) ⊎ (a < b)
    go true f g = inl (f tt)
    go false f g = inr (g tt)

not_lt : (a b : ℕ) → T (not (ltb a b)) → b ≤ a
not_lt a b n = elim (le_or_lt b a) [ inl l ↦ l | inr l ↦ absurd (both (ltb a b) n (lt→ltb a b l)) ]

-- ---- the value of a bit pattern that is not negative and finite, in units of 2 ^ -149: by the exponent's field and the digits
abbrev whole_of : ℕ → ℕ → ℕ
whole_of zero t = t
whole_of (suc x) t = (8388608 + t) * 2 ^ x

abbrev pub whole : ℕ → ℕ
whole b = whole_of (b / 8388608) (b % 8388608)

fields_plain : (x t : ℕ) → x < 255 → T (plain (of_fields binary32 false x t))
unfolding of_fields
fields_plain zero t h = odd_plain 24 t 0 149
fields_plain (suc x) t h = go (eqb (suc x) 255) (eqb→eq (suc x) 255)
  where
    differs : suc x ≡ 255 → ⊥
    differs e = omega arith

    go : (b : Bool) → (T b → suc x ≡ 255) → T (plain (cond b (cond (eqb t 0) (inf false) nan) (odd 24 false (8388608 + t) x 149)))
    go true k = absurd (differs (k tt))
    go false k = odd_plain 24 (8388608 + t) x 149

pub bits_plain : (b : ℕ) → b < 2139095040 → T (plain (of_bits binary32 b))
unfolding of_bits
bits_plain b h = go (leb 2147483648 b) (leb→le 2147483648 b)
  where
    low : 2147483648 ≤ b → ⊥
    low l = omega arith

    field : b % 2147483648 / 8388608 < 255
    field = omega arith

    go : (s : Bool) → (T s → 2147483648 ≤ b) → T (plain (of_fields binary32 s (b % 2147483648 / 8388608) (b % 8388608)))
    go true k = absurd (low (k tt))
    go false k = fields_plain (b % 2147483648 / 8388608) (b % 8388608) field

fields_value : (x t : ℕ) → x < 255 → HasValue (of_fields binary32 false x t) false (whole_of x t) (2 ^ 149)
unfolding of_fields
fields_value zero t h = subst (λ (z : ℕ). HasValue (odd 24 false t 0 149) false z (2 ^ 149)) (mul-one t) (odd_sign 24 false t 0 149)
fields_value (suc x) t h = go (eqb (suc x) 255) (eqb→eq (suc x) 255)
  where
    differs : suc x ≡ 255 → ⊥
    differs e = omega arith

    go : (b : Bool) → (T b → suc x ≡ 255) → HasValue (cond b (cond (eqb t 0) (inf false) nan) (odd 24 false (8388608 + t) x 149)) false ((8388608 + t) * 2 ^ x) (2 ^ 149)
    go true k = absurd (differs (k tt))
    go false k = odd_sign 24 false (8388608 + t) x 149

pub bits_value : (b : ℕ) → b < 2139095040 → HasValue (of_bits binary32 b) false (whole b) (2 ^ 149)
unfolding of_bits
bits_value b h = go (leb 2147483648 b) (leb→le 2147483648 b)
  where
    low : 2147483648 ≤ b → ⊥
    low l = omega arith

    field : b / 8388608 < 255
    field = omega arith

    same : b % 2147483648 ≡ b
    same = omega arith

    go : (s : Bool) → (T s → 2147483648 ≤ b) → HasValue (of_fields binary32 s (b % 2147483648 / 8388608) (b % 8388608)) false (whole b) (2 ^ 149)
    go true k = absurd (low (k tt))
    go false k = rw same (fields_value (b / 8388608) (b % 8388608) field)

-- ---- a larger pattern stands for a larger value
field_top : (x t : ℕ) → t < 8388608 → whole_of x t < 8388608 * 2 ^ x
field_top zero t h = h
field_top (suc x) t h =
    lt_of_lt_of_le (mul-lt-mul_of_pos_right {m = 8388608 + t} {n = 16777216} (more t h) (pow_pos x))
    (le_of_eq (mul_assoc 8388608 2 (2 ^ x) ∙ ap (λ (z : ℕ). 8388608 * z) (mul_comm 2 (2 ^ x) ∙ sym (pow-suc 2 x))))
  where
    more : (t : ℕ) → t < 8388608 → 8388608 + t < 16777216
    more t h = omega arith

field_bottom : (x y t : ℕ) → x < y → 8388608 * 2 ^ x ≤ whole_of y t
field_bottom x (suc y) t h = mul-le-mul {n₁ = 8388608} {m₁ = 2 ^ x} {n₂ = 8388608 + t} {m₂ = 2 ^ y} (most t) (pow_mono (pred x y h))
  where
    most : (t : ℕ) → 8388608 ≤ 8388608 + t
    most t = omega arith

    pred : (x y : ℕ) → x < suc y → x ≤ y
    pred x y h = omega arith
field_bottom x zero t h = absurd (none x h)
  where
    none : (x : ℕ) → x < 0 → ⊥
    none x h = omega arith

same_field : (x t u : ℕ) → t < u → whole_of x t < whole_of x u
same_field zero t u h = h
same_field (suc x) t u h = mul-lt-mul_of_pos_right {m = 8388608 + t} {n = 8388608 + u} (shift t u h) (pow_pos x)
  where
    shift : (t u : ℕ) → t < u → 8388608 + t < 8388608 + u
    shift t u h = omega arith

pub whole_lt : (a b : ℕ) → a < b → whole a < whole b
whole_lt a b h =
    elim (eq-or-lt_of_le (fields a b h)) [
      | inl e ↦ subst (λ (x : ℕ). whole_of (a / 8388608) (a % 8388608) < whole_of x (b % 8388608)) e (same_field (a / 8388608) (a % 8388608) (b % 8388608) (digits a b h e))
      | inr l ↦ lt_of_lt_of_le (field_top (a / 8388608) (a % 8388608) (rest a)) (field_bottom (a / 8388608) (b / 8388608) (b % 8388608) l)
    ]
  where
    fields : (a b : ℕ) → a < b → a / 8388608 ≤ b / 8388608
    fields a b h = omega arith

    digits : (a b : ℕ) → a < b → a / 8388608 ≡ b / 8388608 → a % 8388608 < b % 8388608
    digits a b h e = omega arith

    rest : (a : ℕ) → a % 8388608 < 8388608
    rest a = omega arith

pub whole_le : (a b : ℕ) → a ≤ b → whole a ≤ whole b
whole_le a b h = elim (eq-or-lt_of_le h) [ inl e ↦ le_of_eq (ap whole e) | inr l ↦ le_of_lt (whole_lt a b l) ]

-- ---- `<` on floats is `<` on the patterns
lt_cross : (x y : Float) → T (plain x) → T (plain y) → lt x y ≡ ltb (num x * den y) (num y * den x)
unfolding lt
lt_cross nan y p q = absurd p
lt_cross (inf s) y p q = absurd p
lt_cross (fin true m e) y p q = absurd p
lt_cross (fin false m e) nan p q = absurd q
lt_cross (fin false m e) (inf t) p q = absurd q
lt_cross (fin false m e) (fin true n d) p q = absurd q
lt_cross (fin false m e) (fin false n d) p q = refl

-- x / d is X / U and y / e is Y / U, so X < Y gives x / d < y / e
cross_lt : (x d y e X Y U : ℕ) → 0 < U → 0 < d → 0 < e → x * U ≡ X * d → y * U ≡ Y * e → X < Y → x * e < y * d
cross_lt x d y e X Y U u D E p q h =
    lt_of_mul-lt-mul_right U
    (lt_of_le_of_lt (le_of_eq (mul_right_comm x e U ∙ ap (λ (z : ℕ). z * e) p ∙ mul_assoc X d e))
    (lt_of_lt_of_le (mul-lt-mul_of_pos_right h (mul-pos D E)) (le_of_eq (ap (λ (z : ℕ). Y * z) (mul_comm d e) ∙ sym (mul_assoc Y e d) ∙ ap (λ (z : ℕ). z * d) (sym q) ∙ mul_right_comm y U d))))

cross_le : (x d y e X Y U : ℕ) → 0 < U → x * U ≡ X * d → y * U ≡ Y * e → X ≤ Y → x * e ≤ y * d
cross_le x d y e X Y U u p q h =
    le_of_mul-le-mul_right
    (le_trans (le_of_eq (mul_right_comm x e U ∙ ap (λ (z : ℕ). z * e) p ∙ mul_assoc X d e))
    (le_trans (mul-le-mul_right (d * e) h) (le_of_eq (ap (λ (z : ℕ). Y * z) (mul_comm d e) ∙ sym (mul_assoc Y e d) ∙ ap (λ (z : ℕ). z * d) (sym q) ∙ mul_right_comm y U d))))
    u

pub lt_bits : (a b : ℕ) → a < 2139095040 → b < 2139095040 → lt (of_bits binary32 a) (of_bits binary32 b) ≡ ltb a b
lt_bits a b ha hb =
    let x = of_bits binary32 a in
    let y = of_bits binary32 b in
    let p = value→cross x (whole a) (2 ^ 149) (bits_value a ha) in
    let q = value→cross y (whole b) (2 ^ 149) (bits_value b hb) in
    lt_cross x y (bits_plain a ha) (bits_plain b hb)
    ∙ same_test (ltb (num x * den y) (num y * den x)) (ltb a b)
    (λ t. lt→ltb a b (elim (le_or_lt b a) [ inl l ↦ absurd (not-le_of_lt (ltb→lt _ _ t) (cross_le (num y) (den y) (num x) (den x) (whole b) (whole a) (2 ^ 149) (pow_pos 149) q p (whole_le b a l))) | inr l ↦ l ]))
    (λ t. lt→ltb _ _ (cross_lt (num x) (den x) (num y) (den y) (whole a) (whole b) (2 ^ 149) (pow_pos 149) (den_pos x) (den_pos y) p q (whole_lt a b (ltb→lt a b t))))

-- ---- the same up to the pattern of +∞
lt_inf : (x : Float) → T (plain x) → lt x (inf false) ≡ true
unfolding lt
lt_inf nan p = absurd p
lt_inf (inf s) p = absurd p
lt_inf (fin s m e) p = refl

inf_lt : (y : Float) → T (nonneg y) → lt (inf false) y ≡ false
unfolding lt
inf_lt nan p = absurd p
inf_lt (inf s) p = refl
inf_lt (fin s m e) p = refl

pub inf_bits : of_bits binary32 2139095040 ≡ inf false
unfolding of_bits
inf_bits = refl

pub bits_nonneg : (b : ℕ) → b ≤ 2139095040 → T (nonneg (of_bits binary32 b))
bits_nonneg b h =
    elim (eq-or-lt_of_le h) [
      | inl e ↦ subst (λ (x : ℕ). T (nonneg (of_bits binary32 x))) (sym e) (subst (λ (x : Float). T (nonneg x)) (sym inf_bits) tt)
      | inr l ↦ plain_nonneg (of_bits binary32 b) (bits_plain b l)
    ]

pub lt_weights : (a b : ℕ) → a ≤ 2139095040 → b ≤ 2139095040 → lt (of_bits binary32 a) (of_bits binary32 b) ≡ ltb a b
lt_weights a b ha hb =
    elim (eq-or-lt_of_le ha) [
      | inl e ↦
          ap (λ (x : ℕ). lt (of_bits binary32 x) (of_bits binary32 b)) e
          ∙ ap (λ (x : Float). lt x (of_bits binary32 b)) inf_bits
          ∙ inf_lt (of_bits binary32 b) (bits_nonneg b hb)
          ∙ sym (is_false (ltb a b) (not_T (ltb a b) (λ (t : T (ltb a b)). clash a b (ltb→lt a b t) e hb)))
      | inr l ↦
          elim (eq-or-lt_of_le hb) [
            | inl e ↦
                ap (λ (x : ℕ). lt (of_bits binary32 a) (of_bits binary32 x)) e
                ∙ ap (λ (x : Float). lt (of_bits binary32 a) x) inf_bits
                ∙ lt_inf (of_bits binary32 a) (bits_plain a l)
                ∙ sym (is_true (ltb a b) (lt→ltb a b (subst (λ (x : ℕ). a < x) (sym e) l)))
            | inr k ↦ lt_bits a b l k
          ]
    ]
  where
    clash : (a b : ℕ) → a < b → a ≡ 2139095040 → b ≤ 2139095040 → ⊥
    clash a b h e k = omega arith

-- the lesser of two weights is the lesser of their patterns
pub least_bits : (a b : ℕ) → a ≤ 2139095040 → b ≤ 2139095040 → min_f (of_bits binary32 a) (of_bits binary32 b) ≡ of_bits binary32 (cond (ltb b a) b a)
unfolding min_f
least_bits a b ha hb = ap (λ (t : Bool). cond t (of_bits binary32 b) (of_bits binary32 a)) (lt_weights b a hb ha) ∙ go (ltb b a)
  where
    go : (t : Bool) → cond t (of_bits binary32 b) (of_bits binary32 a) ≡ of_bits binary32 (cond t b a)
    go true = refl
    go false = refl

-- ---- and back: the pattern of a value that is not negative
odd_neg : (d q k l : ℕ) → T (nonneg (odd d true q k l)) → ⊥
unfolding odd
odd_neg d zero k l p = p
odd_neg d (suc q) k l p = p

fields_neg : (x t : ℕ) → T (nonneg (of_fields binary32 true x t)) → ⊥
unfolding of_fields
fields_neg zero t p = odd_neg 24 t 0 149 p
fields_neg (suc x) t p = go (eqb (suc x) 255) (eqb t 0) p
  where
    go : (a b : Bool) → T (nonneg (cond a (cond b (inf true) nan) (odd 24 true (8388608 + t) x 149))) → ⊥
    go true true q = q
    go true false q = q
    go false b q = odd_neg 24 (8388608 + t) x 149 q

fields_nan : (t : ℕ) → T (nonneg (of_fields binary32 false 255 t)) → t ≡ 0
unfolding of_fields
fields_nan t p = go (eqb t 0) (eqb→eq t 0) p
  where
    go : (b : Bool) → (T b → t ≡ 0) → T (nonneg (cond b (inf false) nan)) → t ≡ 0
    go true f q = f tt
    go false f q = absurd q

pub nonneg_bits_of : (b : ℕ) → b < 4294967296 → T (nonneg (of_bits binary32 b)) → b ≤ 2139095040
unfolding of_bits
nonneg_bits_of b h p = go (leb 2147483648 b) (nleb→lt 2147483648 b) p
  where
    high : b < 2147483648 → 2139095040 < b → b % 2147483648 / 8388608 ≡ 255
    high l g = omega arith

    digits : b < 2147483648 → 2139095040 < b → b % 8388608 ≡ 0 → ⊥
    digits l g e = omega arith

    go : (s : Bool) → (T (not s) → b < 2147483648) → T (nonneg (of_fields binary32 s (b % 2147483648 / 8388608) (b % 8388608))) → b ≤ 2139095040
    go true f q = absurd (fields_neg (b % 2147483648 / 8388608) (b % 8388608) q)
    go false f q =
        elim (le_or_lt b 2139095040) [
          | inl l ↦ l
          | inr g ↦ absurd (digits (f tt) g (fields_nan (b % 8388608) (subst (λ (z : ℕ). T (nonneg (of_fields binary32 false z (b % 8388608)))) (high (f tt) g) q)))
        ]

pub nonneg_bits : (x : Float) → T (fits binary32 x) → T (nonneg x) → to_bits binary32 x ≤ 2139095040
nonneg_bits x f p = nonneg_bits_of (to_bits binary32 x) (to_bits-lt binary32 x f) (subst (λ (y : Float). T (nonneg y)) (sym (of_bits-to_bits binary32 x f)) p)

pub weight_bits : (x : Float) → Weight x → (to_bits binary32 x ≤ 2139095040) × (of_bits binary32 (to_bits binary32 x) ≡ x)
weight_bits x w = (nonneg_bits x w.1 w.0, of_bits-to_bits binary32 x w.1)

pub bits_weight : (b : ℕ) → b ≤ 2139095040 → Weight (of_bits binary32 b)
bits_weight b h = (bits_nonneg b h, of_bits-fits binary32 b)

-- a pattern that stands for a weight is no NaN's, and comes back
pub bits_number : (b : ℕ) → b ≤ 2139095040 → T (not (nan_bits binary32 b))
bits_number b h = subst (λ (t : Bool). T (not t)) (sym (nan_bits_is binary32 b)) (nonneg_number (of_bits binary32 b) (bits_nonneg b h))

pub bits_back : (b : ℕ) → b ≤ 2139095040 → to_bits binary32 (of_bits binary32 b) ≡ b
bits_back b h = to_bits-of_bits binary32 b (word b h) (nonneg_number (of_bits binary32 b) (bits_nonneg b h))
  where
    word : (b : ℕ) → b ≤ 2139095040 → b < 4294967296
    word b h = omega arith

-- the lesser pattern is that of the lesser float
pub min_is : (a b : ℕ) → min a b ≡ cond (ltb b a) b a
min_is a b = go (ltb b a) refl
  where
    go : (t : Bool) → ltb b a ≡ t → min a b ≡ cond t b a
    go true e = min-eq_right (le_of_lt (ltb-true b a e))
    go false e = min-eq_left (ltb-false b a e)

pub lesser : (a b r : ℕ) → a ≤ 2139095040 → b ≤ 2139095040 → r ≡ min a b
    → (r ≡ to_bits binary32 (min_f (of_bits binary32 a) (of_bits binary32 b))) × (of_bits binary32 r ≡ min_f (of_bits binary32 a) (of_bits binary32 b)) × (r ≤ 2139095040)
lesser a b r ha hb e =
    let hr : r ≤ 2139095040 = omega (arith, e, min-le_left a b) in
    let m : of_bits binary32 r ≡ min_f (of_bits binary32 a) (of_bits binary32 b) =
    sym (least_bits a b ha hb ∙ ap (of_bits binary32) (sym (e ∙ min_is a b))) in
    (sym (bits_back r hr) ∙ ap (to_bits binary32) m, m, hr)

-- ---- the entry rules
pub plain_test : (b : ℕ) → b < 4294967296 → ltb b 2139095040 ≡ plain (of_bits binary32 b)
plain_test b h =
    same_test (ltb b 2139095040) (plain (of_bits binary32 b))
    (λ t. bits_plain b (ltb→lt b 2139095040 t))
    (λ p. lt→ltb b 2139095040
    (elim (eq-or-lt_of_le (nonneg_bits_of b h (plain_nonneg (of_bits binary32 b) p))) [
      | inl e ↦ absurd (subst (λ (x : Float). T (plain x)) inf_bits (subst (λ (x : ℕ). T (plain (of_bits binary32 x))) e p))
      | inr l ↦ l
    ]))

or_not : (a b : ℕ) → (ltb a b || (eqb a b && true)) ≡ not (ltb b a)
or_not a b =
    same_test (ltb a b || (eqb a b && true)) (not (ltb b a))
    (λ t. not_T (ltb b a) (λ u. split (ltb a b) (eqb a b) t (λ v. asym (ltb→lt a b v) (ltb→lt b a u)) (λ v. irr (eqb→eq a b v) (ltb→lt b a u))))
    (λ t. elim (le_or_lt b a) [
      | inl l ↦ elim (eq-or-lt_of_le l) [ inl e ↦ right (ltb a b) (eqb a b) (eq→eqb (sym e)) | inr k ↦ absurd (both (ltb b a) t (lt→ltb b a k)) ]
      | inr l ↦ left (ltb a b) (eqb a b && true) (lt→ltb a b l)
    ])
  where
    asym : {a b : ℕ} → a < b → b < a → ⊥
    asym h k = omega arith

    irr : {a b : ℕ} → a ≡ b → b < a → ⊥
    irr e k = omega arith

    split : (p q : Bool) → T (p || (q && true)) → (T p → ⊥) → (T q → ⊥) → ⊥
    split true q t f g = f tt
    split false true t f g = g tt
    split false false t f g = t

    left : (p q : Bool) → T p → T (p || q)
    left true q t = tt
    left false q t = absurd t

    right : (p q : Bool) → T q → T (p || (q && true))
    right true q t = tt
    right false true t = tt
    right false false t = t

pub le_not_lt : (x y : Float) → T (plain x) → T (plain y) → le x y ≡ not (lt y x)
unfolding le lt
le_not_lt nan y p q = absurd p
le_not_lt (inf s) y p q = absurd p
le_not_lt (fin true m e) y p q = absurd p
le_not_lt (fin false m e) nan p q = absurd q
le_not_lt (fin false m e) (inf t) p q = absurd q
le_not_lt (fin false m e) (fin true n d) p q = absurd q
le_not_lt (fin false m e) (fin false n d) p q = or_not (m * up e * down d) (n * up d * down e)

pub le_bits : (a b : ℕ) → a < 2139095040 → b < 2139095040 → le (of_bits binary32 a) (of_bits binary32 b) ≡ leb a b
le_bits a b ha hb = le_not_lt _ _ (bits_plain a ha) (bits_plain b hb) ∙ ap not (lt_bits b a hb ha) ∙ go (ltb b a) refl
  where
    go : (t : Bool) → ltb b a ≡ t → not t ≡ leb a b
    go true e = sym (lt-leb a b (ltb-true b a e))
    go false e = sym (le-leb a b (ltb-false b a e))

-- 2 ^ 20
abbrev top : Float
top = fin false 1 (pos 20)

top_bits : of_bits binary32 0x4980_0000 ≡ top
unfolding of_bits
top_bits = refl

le_top : (b : ℕ) → b < 2139095040 → le (of_bits binary32 b) top ≡ not (ltb 0x4980_0000 b)
le_top b h =
    le_not_lt (of_bits binary32 b) top (bits_plain b h) tt
    ∙ ap (λ (x : Float). not (lt x (of_bits binary32 b))) (sym top_bits)
    ∙ ap not (lt_bits 0x4980_0000 b (lit< tt) h)

pub small_test : (b : ℕ) → b < 4294967296 → leb b 0x4980_0000 ≡ small (of_bits binary32 b)
unfolding small
small_test b h =
    let x = of_bits binary32 b in
    same_test (leb b 0x4980_0000) (plain x && le x top)
    (λ t. let l = lt_of_le_of_lt (leb→le b 0x4980_0000 t) (lit< tt) in
    and_i (plain x) (le x top) (bits_plain b l) (subst T (sym (le_top b l)) (not_T (ltb 0x4980_0000 b) (λ u. not-le_of_lt (ltb→lt 0x4980_0000 b u) (leb→le b 0x4980_0000 t)))))
    (λ t. let l = ltb→lt b 2139095040 (subst T (sym (plain_test b h)) (and_l (plain x) (le x top) t)) in
    le→leb b 0x4980_0000 (not_lt 0x4980_0000 b (subst T (le_top b l) (and_r (plain x) (le x top) t))))

-- ---- a product of two small values is finite
pub small_plain : (x : Float) → T (small x) → T (plain x)
unfolding small
small_plain x t = and_l (plain x) (le x top) t

small_cross : (x : Float) → T (small x) → num x ≤ 1048576 * den x
unfolding small
small_cross x t =
    let p = and_l (plain x) (le x top) t in
    let n = subst T (le_not_lt x top p tt ∙ ap not (lt_cross top x tt p)) (and_r (plain x) (le x top) t) in
    le_trans (le_of_eq (sym (mul-one (num x)))) (not_lt (1048576 * den x) (num x * 1) n)

below_finite : (x y : Float) → T (nonneg x) → T (plain y) → T (le x y) → T (plain x)
unfolding le
below_finite nan y p q h = p
below_finite (inf true) y p q h = absurd p
below_finite (inf false) nan p q h = absurd q
below_finite (inf false) (inf t) p q h = absurd q
below_finite (inf false) (fin t n d) p q h = absurd h
below_finite (fin s m e) y p q h = p

mul_round : (x y : Float) → T (plain x) → T (plain y) → mul binary32 x y ≡ round binary32 false (num x * num y) (den x * den y)
unfolding mul
mul_round nan y p q = absurd p
mul_round (inf s) y p q = absurd p
mul_round (fin true m e) y p q = absurd p
mul_round (fin false m e) nan p q = absurd q
mul_round (fin false m e) (inf t) p q = absurd q
mul_round (fin false m e) (fin true n d) p q = absurd q
mul_round (fin false m e) (fin false n d) p q = refl

pub product_plain : (x y : Float) → T (small x) → T (small y) → T (plain (mul binary32 x y))
product_plain x y p q =
    subst (λ (z : Float). T (plain z)) (sym (mul_round x y (small_plain x p) (small_plain y q)))
    (below_finite (round binary32 false (num x * num y) (den x * den y)) (round binary32 false 1099511627776 1) (round_nonneg binary32 (num x * num y) (den x * den y)) bound
    (round_mono binary32 (num x * num y) (den x * den y) 1099511627776 1 (mul-pos (den_pos x) (den_pos y)) (lit< tt)
    (le_trans (le_of_eq (mul-one (num x * num y))) (le_trans (mul-le-mul (small_cross x p) (small_cross y q)) (le_of_eq (mul-mul-mul_comm 1048576 (den x) 1048576 (den y)))))))
  where
    bound : T (plain (round binary32 false 1099511627776 1))
    bound = unfold round in tt
