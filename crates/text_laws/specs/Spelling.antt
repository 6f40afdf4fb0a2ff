-- Every number and every mask has one spelling: a field that reads as a number is what is written for it.
-- Assumes nothing.
use Rattle.std.specs.Prelude.{◌≡◌, Bool, true, false, cond, ◌&&◌, ltb, leb, eqb}
use Rattle.std.proofs.Math.Path.{refl, sym, ap, subst}
use Rattle.std.proofs.Common.{◌∙◌, arith, pow-suc, le-div_iff_mul-le, div-lt_iff_lt-mul}
use mathlib.Core.List.{List, [], ◌∷◌, map}
use Rattle.std.proofs.lemmas.Bool.{false≢true}
use Rattle.std.proofs.Math.Option.{some, some-injective}
use Prim.Native.Nat.{ℕ, ◌+◌, ◌-◌, ◌*◌, ◌/◌, ◌%◌, ◌^◌, ◌≤◌, ◌<◌}
use Rattle.std.proofs.Math.Nat.{pow-zero, div-one, div-div-eq-div-mul, mul-add-div_right, mul-add-mod_self_right}
use Rattle.std.proofs.Math.Nat.{mod-eq_of_lt, div-eq_of_lt, add-zero, one-le-pow}
use Rattle.std.proofs.Math.ListN.{length}
use Rattle.std.proofs.lemmas.List.{length-map}
use borrow.Author.Tests.{ltb-true, ltb-false, lt-ltb, le-ltb, eqb-true}
use Rattle.definition.proofs.Entries.{and_both}
use Rattle.definition.specs.Text.{given, digit_of, value_from, all_below, no_leading_zero, is_number, is_bits}
use Rattle.definition.specs.Text.{read_number}
use Rattle.definition.specs.Text.{read_bits, glyph, digits, places, decimal, eight_digits}
use Rattle.io.specs.Digits.{IsDigitCount}
use Rattle.lines.specs.Places.{fewest_decimal, one_number}
use Rattle.lines.specs.Round.{digits_cons}
use Rattle.sheet_laws.specs.Words.{none_some}

-- ---- a digit's byte

abbrev digit_by : Bool → Bool → Bool → Bool → ℕ → ℕ
digit_by p q r s c = cond p 16 (cond q (c - 48) (cond r 16 (cond s (c - 87) 16)))

glyph_digit : (c : ℕ) → digit_of c < 16 → glyph (digit_of c) ≡ c
unfolding digit_of
glyph_digit c h = low (ltb c 48) refl (ltb c 58) refl (ltb c 97) refl (ltb c 103) refl h
  where
    low : (p : Bool) → ltb c 48 ≡ p → (q : Bool) → ltb c 58 ≡ q → (r : Bool) → ltb c 97 ≡ r → (s : Bool) → ltb c 103 ≡ s
        → digit_by p q r s c < 16 → glyph (digit_by p q r s c) ≡ c
    low true e q f r g s i k = absurd (omega arith)
    low false e true f r g s i k =
        let a : 48 ≤ c = ltb-false c 48 e in
        let b : c < 58 = ltb-true c 58 f in
        let t : ltb (c - 48) 10 ≡ true = lt-ltb (c - 48) 10 (omega arith) in
        ap (λ (u : Bool). cond u (48 + (c - 48)) (87 + (c - 48))) t ∙ (let z : 48 + (c - 48) ≡ c = omega arith in z)
    low false e false f true g s i k = absurd (omega arith)
    low false e false f false g true i k =
        let a : 97 ≤ c = ltb-false c 97 g in
        let t : ltb (c - 87) 10 ≡ false = le-ltb (c - 87) 10 (omega arith) in
        ap (λ (u : Bool). cond u (48 + (c - 87)) (87 + (c - 87))) t ∙ (let z : 87 + (c - 87) ≡ c = omega arith in z)
    low false e false f false g false i k = absurd (omega arith)

-- ---- the law over the base

module _ (b : ℕ) (z : 0 < b) (h : b ≤ 16) where
  -- the digits in front of the last ones spell v
  front : (ds : List ℕ) (v : ℕ) → all_below b ds ≡ true → value_from b v ds / b ^ length ds ≡ v
  unfolding value_from
  front [] v e = ap (λ (m : ℕ). v / m) (pow-zero b) ∙ div-one v
  front (d ∷ ds) v e =
      let t = and_both (ltb d b) (all_below b ds) e in
      let l : d < b = ltb-true d b t.0 in
      ap (λ (m : ℕ). value_from b (v * b + d) ds / m) (pow-suc b (length ds))
      ∙ sym (div-div-eq-div-mul (value_from b (v * b + d) ds) (b ^ length ds) b)
      ∙ ap (λ (m : ℕ). m / b) (front ds (v * b + d) t.1)
      ∙ mul-add-div_right z v d
      ∙ ap (λ (m : ℕ). v + m) (div-eq_of_lt l)
      ∙ add-zero v

  -- the last ones, written, are the digits' bytes
  written : (f : List ℕ) (v : ℕ) → all_below b (map digit_of f) ≡ true
      → digits b (length f) (value_from b v (map digit_of f)) ≡ f
  unfolding value_from
  written [] v e = refl
  written (c ∷ f) v e =
      let d : ℕ = digit_of c in
      let ds : List ℕ = map digit_of f in
      let t = and_both (ltb d b) (all_below b ds) e in
      let l : d < b = ltb-true d b t.0 in
      let n : ℕ = value_from b (v * b + d) ds in
      let q : n / b ^ length f ≡ v * b + d =
      subst (λ (k : ℕ). n / b ^ k ≡ v * b + d) (length-map f digit_of) (front ds (v * b + d) t.1) in
      let m : n / b ^ length f % b ≡ d =
      ap (λ (k : ℕ). k % b) q ∙ mul-add-mod_self_right v b d ∙ mod-eq_of_lt l in
      digits_cons b z h (length f) n
      ∙ ap (λ (k : ℕ). glyph k ∷ digits b (length f) n) m
      ∙ ap (λ (k : ℕ). k ∷ digits b (length f) n)
      (glyph_digit c (let l' : digit_of c < b = l in omega arith))
      ∙ ap (λ (t : List ℕ). c ∷ t) (written f (v * b + d) t.1)

-- ---- no leading zero: the fewest digits

fewest : (ds : List ℕ) → all_below 10 ds ≡ true → no_leading_zero ds ≡ true
    → IsDigitCount 10 1 (value_from 10 0 ds) (length ds)
unfolding value_from
fewest [] a e = absurd (false≢true e)
fewest (d ∷ ds) a e = (omega arith, under, above ds a e)
  where
    under : value_from 10 0 (d ∷ ds) < 10 ^ length (d ∷ ds)
    under =
        let n : ℕ = value_from 10 0 (d ∷ ds) in
        let w : ℕ = 10 ^ length (d ∷ ds) in
        let q : n / w ≡ 0 = front 10 (omega arith) (omega arith) (d ∷ ds) 0 a in
        let l : n / w < 1 = omega arith in
        let m : n < 1 * w = (div-lt_iff_lt-mul (one-le-pow (length (d ∷ ds)) 10 (omega arith))).0 l in
        omega arith

    above : (es : List ℕ) → all_below 10 (d ∷ es) ≡ true → no_leading_zero (d ∷ es) ≡ true → 1 < length (d ∷ es)
        → 10 ^ (length (d ∷ es) - 1) ≤ value_from 10 0 (d ∷ es)
    above [] b f g = absurd (omega arith)
    above (x ∷ es) b f g =
        let v : ℕ = 0 * 10 + d in
        let n : ℕ = value_from 10 v (x ∷ es) in
        let w : ℕ = 10 ^ length (x ∷ es) in
        let q : n / w ≡ v =
        front 10 (omega arith) (omega arith) (x ∷ es) v (and_both (ltb d 10) (all_below 10 (x ∷ es)) b).1 in
        let p : 0 < d = ltb-true 0 d f in
        let l : 1 ≤ n / w = omega arith in
        let m : 1 * w ≤ n = (le-div_iff_mul-le (one-le-pow (length (x ∷ es)) 10 (omega arith))).0 l in
        let k : length (d ∷ (x ∷ es)) - 1 ≡ length (x ∷ es) = omega arith in
        subst (λ (j : ℕ). 10 ^ j ≤ n) (sym k) (omega arith)

-- ---- the laws

pub given_some : {A : Type 0} (t : Bool) (a c : A) → given t a ≡ some c → (t ≡ true) × (a ≡ c)
given_some true a c e = (refl, some-injective a c e)
given_some false a c e = absurd (none_some e)

pub number_text : (most n : ℕ) (f : List ℕ) → read_number most f ≡ some n → decimal n ≡ f
unfolding read_number decimal
number_text most n f e =
    let ds : List ℕ = map digit_of f in
    let v : ℕ = value_from 10 0 ds in
    let g = given_some (is_number most ds) v n e in
    let a = and_both (all_below 10 ds && no_leading_zero ds) (leb v most) g.0 in
    let b = and_both (all_below 10 ds) (no_leading_zero ds) a.0 in
    let c : IsDigitCount 10 1 v (length ds) = fewest ds b.0 b.1 in
    let k : places 10 v v ≡ length f =
    one_number 10 1 v (places 10 v v) (length ds) (omega arith) (fewest_decimal v) c ∙ length-map f digit_of in
    ap (λ (m : ℕ). digits 10 (places 10 m m) m) (sym g.1)
    ∙ ap (λ (j : ℕ). digits 10 j v) k
    ∙ written 10 (omega arith) (omega arith) f 0 b.0

pub bits_text : (n : ℕ) (f : List ℕ) → read_bits f ≡ some n → eight_digits n ≡ f
unfolding read_bits eight_digits
bits_text n f e =
    let ds : List ℕ = map digit_of f in
    let g = given_some (is_bits ds) (value_from 16 0 ds) n e in
    let a = and_both (eqb (length ds) 8) (all_below 16 ds) g.0 in
    let l : length ds ≡ 8 = eqb-true (length ds) 8 a.0 in
    ap (λ (m : ℕ). digits 16 8 m) (sym g.1)
    ∙ ap (λ (j : ℕ). digits 16 j (value_from 16 0 ds)) (sym (sym (length-map f digit_of) ∙ l))
    ∙ written 16 (omega arith) (omega arith) f 0 a.1
