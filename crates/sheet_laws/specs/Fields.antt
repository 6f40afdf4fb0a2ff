-- A field read byte by byte is the definition's field: numbers, and eight hexadecimal digits. Assumes nothing.
use Rattle.std.specs.Prelude.{◌≡◌, refl, List, [], ◌∷◌, map, Bool, true, false, cond, ◌&&◌, ℕ, zero, suc, ◌+◌, ◌*◌, ◌^◌, ◌≤◌, ◌<◌, length, ltb, leb, eqb, Some, None}
use Rattle.std.proofs.Common.{sym, ap, ◌∙◌, arith, add-one, ltb-true, ltb-false, lt-ltb, le-ltb, le-leb, ne_eqb}
use Rattle.std.proofs.Math.Option.{Option, none, some}
use native.Mathlib.Nat.{pow-le-pow_right, pow-suc}
use Rattle.std.proofs.lemmas.Bool.{lt-leb}
use Rattle.definition.specs.Text.{given, digit_of, value_from, all_below, no_leading_zero, read_number, read_bits}
use Rattle.sheet_rules.specs.Bytes.{num, number_byte, mask_byte, take_byte, closed_of, Took}
use Rattle.sheet_rules.specs.declared.digits.Form.{Form}
use Rattle.sheet_rules.specs.declared.digits.Form.TheVariants.{Number, Mask}
use Rattle.sheet_rules.specs.declared.digits.Num.{Num}

abbrev pub onward : Took → (Num → Took) → Took
onward (Some x) k = k x
onward None k = None

-- what the bytes of a field make, one by one
unfoldable pub take_all : Form → Num → List ℕ → Took
take_all f x [] = Some x
take_all f x (b ∷ bs) = onward (take_byte f x b) (λ y. take_all f y bs)

abbrev pub closing : Form → Took → Option ℕ
closing f (Some x) = cond (closed_of f x) (some x.value) none
closing f None = none

-- the value only grows
grows : (base : ℕ) → 0 < base → (v : ℕ) (ds : List ℕ) → v ≤ value_from base v ds
unfolding value_from
grows base z v [] = omega arith
grows base z v (d ∷ ds) =
    let h : v * base + d ≤ value_from base (v * base + d) ds = grows base z (v * base + d) ds in
    let g : v * 1 ≤ v * base = native.Mathlib.Nat.mul-le-mul_left v z in
    omega arith

-- a number behind some digits: v was read so far
unfoldable pub number_rest : ℕ → ℕ → List ℕ → Option ℕ
number_rest most v bs = given (all_below 10 (map digit_of bs) && leb (value_from 10 v (map digit_of bs)) most) (value_from 10 v (map digit_of bs))

off : (a : Bool) (v : ℕ) → given (a && false) v ≡ none
off true v = refl
off false v = refl

-- from the second digit on: v is not zero
pub number_rest_lem : (most v : ℕ) → most ≤ 4294967295 → 0 < v → v ≤ most → (bs : List ℕ) → closing (Number most) (take_all (Number most) (num v 1) bs) ≡ number_rest most v bs
unfolding take_all take_byte number_byte closed_of number_rest value_from
number_rest_lem most v m z h [] = rw (le-leb v most h)
number_rest_lem most v m z h (b ∷ bs) =
    let t₂ : ltb 4294967295 v ≡ false = le-ltb 4294967295 v (omega arith) in
    let t₃ : ltb v 1 ≡ false = le-ltb v 1 (omega arith) in
    go (ltb (digit_of b) 10) refl t₂ t₃ (ltb most (v * 10 + digit_of b)) refl (λ g. number_rest_lem most (v * 10 + digit_of b) m (omega arith) g bs)
  where
    go : (t : Bool) → ltb (digit_of b) 10 ≡ t → ltb 4294967295 v ≡ false → ltb v 1 ≡ false → (u : Bool) → ltb most (v * 10 + digit_of b) ≡ u
        → (v * 10 + digit_of b ≤ most → closing (Number most) (take_all (Number most) (num (v * 10 + digit_of b) 1) bs) ≡ number_rest most (v * 10 + digit_of b) bs)
        → closing (Number most) (take_all (Number most) (num v 1) (b ∷ bs)) ≡ number_rest most v (b ∷ bs)
    go false e t₂ t₃ u f ih =
        let g : 10 ≤ digit_of b = ltb-false (digit_of b) 10 e in
        let t₁ : ltb 9 (digit_of b) ≡ true = lt-ltb 9 (digit_of b) g in
        simp (t₁, e)
    go true e t₂ t₃ true f ih =
        let g : digit_of b < 10 = ltb-true (digit_of b) 10 e in
        let t₁ : ltb 9 (digit_of b) ≡ false = le-ltb 9 (digit_of b) (omega arith) in
        let p : v * 10 + digit_of b ≤ value_from 10 (v * 10 + digit_of b) (map digit_of bs) = grows 10 (omega arith) (v * 10 + digit_of b) (map digit_of bs) in
        let q : most < v * 10 + digit_of b = ltb-true most (v * 10 + digit_of b) f in
        let t₄ : leb (value_from 10 (v * 10 + digit_of b) (map digit_of bs)) most ≡ false = lt-leb (value_from 10 (v * 10 + digit_of b) (map digit_of bs)) most (omega arith) in
        simp (e, t₁, t₂, t₃, f, t₄) (sym (off (all_below 10 (map digit_of bs)) (value_from 10 (v * 10 + digit_of b) (map digit_of bs))))
    go true e t₂ t₃ false f ih =
        let g : digit_of b < 10 = ltb-true (digit_of b) 10 e in
        let t₁ : ltb 9 (digit_of b) ≡ false = le-ltb 9 (digit_of b) (omega arith) in
        simp (e, t₁, t₂, t₃, f) (ih (ltb-false most (v * 10 + digit_of b) f))

-- nothing goes behind a leading zero
late : (most b : ℕ) (bs : List ℕ) → closing (Number most) (take_all (Number most) (num 0 1) (b ∷ bs)) ≡ none
unfolding take_all take_byte number_byte
late most b bs = go (ltb 9 (digit_of b)) refl
  where
    go : (t : Bool) → ltb 9 (digit_of b) ≡ t → closing (Number most) (take_all (Number most) (num 0 1) (b ∷ bs)) ≡ none
    go true e = rw e
    go false e = rw e

-- behind the first digit, v
number_first : ℕ → ℕ → List ℕ → Option ℕ
number_first most v bs =
    given (all_below 10 (map digit_of bs) && no_leading_zero (v ∷ map digit_of bs) && leb (value_from 10 v (map digit_of bs)) most) (value_from 10 v (map digit_of bs))

off_zero : (a c : Bool) (v : ℕ) → given (a && false && c) v ≡ none
off_zero true c v = refl
off_zero false c v = refl

rest_first : (most v : ℕ) (bs : List ℕ) → no_leading_zero (v ∷ map digit_of bs) ≡ true → number_rest most v bs ≡ number_first most v bs
unfolding number_rest number_first
rest_first most v bs e = rw e (ap (λ (t : Bool). given (t && leb (value_from 10 v (map digit_of bs)) most) (value_from 10 v (map digit_of bs))) (same (all_below 10 (map digit_of bs))))
  where
    same : (t : Bool) → t ≡ t && true
    same true = refl
    same false = refl

number_first_lem : (most v : ℕ) → most ≤ 4294967295 → v ≤ most → (bs : List ℕ) → closing (Number most) (take_all (Number most) (num v 1) bs) ≡ number_first most v bs
unfolding number_first take_all closed_of value_from
number_first_lem most v m h [] = rw (le-leb v most h)
number_first_lem most v m h (b ∷ bs) = go v refl h
  where
    go : (w : ℕ) → v ≡ w → w ≤ most → closing (Number most) (take_all (Number most) (num w 1) (b ∷ bs)) ≡ number_first most w (b ∷ bs)
    go zero e g = late most b bs ∙ sym (off_zero (all_below 10 (map digit_of (b ∷ bs))) (leb (value_from 10 zero (map digit_of (b ∷ bs))) most) (value_from 10 zero (map digit_of (b ∷ bs))))
    go (suc w) e g =
        let t : ltb 0 (suc w) ≡ true = lt-ltb 0 (suc w) (omega arith) in
        number_rest_lem most (suc w) m (omega arith) g (b ∷ bs) ∙ rest_first most (suc w) (b ∷ bs) t

-- a number from its first byte
pub number_field : (most : ℕ) → most ≤ 4294967295 → (bs : List ℕ) → closing (Number most) (take_all (Number most) (num 0 0) bs) ≡ read_number most bs
unfolding take_all take_byte number_byte closed_of read_number value_from number_first
number_field most m [] = refl
number_field most m (b ∷ bs) = go (ltb (digit_of b) 10) refl (ltb most (0 * 10 + digit_of b)) refl
  where
    off₃ : (a p : Bool) (v : ℕ) → given (a && p && false) v ≡ none
    off₃ true true v = refl
    off₃ true false v = refl
    off₃ false p v = refl

    go : (t : Bool) → ltb (digit_of b) 10 ≡ t → (u : Bool) → ltb most (0 * 10 + digit_of b) ≡ u → closing (Number most) (take_all (Number most) (num 0 0) (b ∷ bs)) ≡ read_number most (b ∷ bs)
    go false e u f =
        let g : 10 ≤ digit_of b = ltb-false (digit_of b) 10 e in
        let t₁ : ltb 9 (digit_of b) ≡ true = lt-ltb 9 (digit_of b) g in
        simp (t₁, e)
    go true e true f =
        let g : digit_of b < 10 = ltb-true (digit_of b) 10 e in
        let t₁ : ltb 9 (digit_of b) ≡ false = le-ltb 9 (digit_of b) (omega arith) in
        let p : 0 * 10 + digit_of b ≤ value_from 10 (0 * 10 + digit_of b) (map digit_of bs) = grows 10 (omega arith) (0 * 10 + digit_of b) (map digit_of bs) in
        let q : most < 0 * 10 + digit_of b = ltb-true most (0 * 10 + digit_of b) f in
        let t₄ : leb (value_from 10 (0 * 10 + digit_of b) (map digit_of bs)) most ≡ false = lt-leb (value_from 10 (0 * 10 + digit_of b) (map digit_of bs)) most (omega arith) in
        simp (e, t₁, f, t₄) (sym (off₃ (all_below 10 (map digit_of bs)) (no_leading_zero (digit_of b ∷ map digit_of bs)) (value_from 10 (0 * 10 + digit_of b) (map digit_of bs))))
    go true e false f =
        let g : digit_of b < 10 = ltb-true (digit_of b) 10 e in
        let t₁ : ltb 9 (digit_of b) ≡ false = le-ltb 9 (digit_of b) (omega arith) in
        let h : digit_of b ≤ most = omega (arith, ltb-false most (0 * 10 + digit_of b) f) in
        let f' : ltb most (digit_of b) ≡ false = le-ltb most (digit_of b) h in
        let e₀ : 0 + digit_of b ≡ digit_of b = omega arith in
        simp (e, t₁, e₀, f')
        (number_first_lem most (digit_of b) m h bs
        ∙ ap (λ (k : ℕ). given (all_below 10 (map digit_of bs) && no_leading_zero (digit_of b ∷ map digit_of bs) && leb (value_from 10 k (map digit_of bs)) most) (value_from 10 k (map digit_of bs))) (sym e₀))

-- eight digits: n were read so far
bits_rest : ℕ → ℕ → List ℕ → Option ℕ
bits_rest v n bs = given (eqb (n + length (map digit_of bs)) 8 && all_below 16 (map digit_of bs)) (value_from 16 v (map digit_of bs))

bits_rest_lem : (v n : ℕ) → n ≤ 8 → v < 16 ^ n → (bs : List ℕ) → closing Mask (take_all Mask (num v n) bs) ≡ bits_rest v n bs
unfolding take_all take_byte mask_byte closed_of bits_rest value_from
bits_rest_lem v n h z [] = let e : n + 0 ≡ n = omega arith in rw e (last (eqb n 8))
  where
    last : (t : Bool) → cond t (some v) none ≡ given (t && true) v
    last true = refl
    last false = refl
bits_rest_lem v n h z (b ∷ bs) =
    go (ltb (digit_of b) 16) refl (ltb 7 n) refl (λ g z'. bits_rest_lem (v * 16 + digit_of b) (n + 1) g z' bs)
  where
    long : ltb (digit_of b) 16 ≡ true → ltb 7 n ≡ true → (t : Bool) → ltb 4294967295 v ≡ t → closing Mask (take_all Mask (num v n) (b ∷ bs)) ≡ none
    long e f true k =
        let g : digit_of b < 16 = ltb-true (digit_of b) 16 e in
        let t₁ : ltb 15 (digit_of b) ≡ false = le-ltb 15 (digit_of b) (omega arith) in
        simp (t₁, k)
    long e f false k =
        let g : digit_of b < 16 = ltb-true (digit_of b) 16 e in
        let t₁ : ltb 15 (digit_of b) ≡ false = le-ltb 15 (digit_of b) (omega arith) in
        simp (t₁, k, f)

    off₂ : (a c : Bool) (w : ℕ) → a ≡ false → given (a && c) w ≡ none
    off₂ a c w e = rw e

    go : (t : Bool) → ltb (digit_of b) 16 ≡ t → (u : Bool) → ltb 7 n ≡ u
        → (n + 1 ≤ 8 → v * 16 + digit_of b < 16 ^ (n + 1) → closing Mask (take_all Mask (num (v * 16 + digit_of b) (n + 1)) bs) ≡ bits_rest (v * 16 + digit_of b) (n + 1) bs)
        → closing Mask (take_all Mask (num v n) (b ∷ bs)) ≡ bits_rest v n (b ∷ bs)
    go false e u f ih =
        let g : 16 ≤ digit_of b = ltb-false (digit_of b) 16 e in
        let t₁ : ltb 15 (digit_of b) ≡ true = lt-ltb 15 (digit_of b) g in
        simp (t₁, e) (sym (off (eqb (n + suc (length (map digit_of bs))) 8) (value_from 16 (v * 16 + digit_of b) (map digit_of bs))))
    go true e true f ih =
        let w : 7 < n = ltb-true 7 n f in
        let t₅ : eqb (n + suc (length (map digit_of bs))) 8 ≡ false = ne_eqb (n + suc (length (map digit_of bs))) 8 (λ q. let q' : n + suc (length (map digit_of bs)) ≡ 8 = q in omega arith) in
        long e f (ltb 4294967295 v) refl ∙ sym (off₂ (eqb (n + suc (length (map digit_of bs))) 8) (all_below 16 (map digit_of (b ∷ bs))) (value_from 16 v (map digit_of (b ∷ bs))) t₅)
    go true e false f ih =
        let g : digit_of b < 16 = ltb-true (digit_of b) 16 e in
        let w : n ≤ 7 = ltb-false 7 n f in
        let p : 16 ^ n ≤ 16 ^ 7 = pow-le-pow_right {n = 16} (omega arith) w in
        let t₁ : ltb 15 (digit_of b) ≡ false = le-ltb 15 (digit_of b) (omega arith) in
        let t₂ : ltb 4294967295 v ≡ false = le-ltb 4294967295 v (omega arith) in
        let q : 16 ^ (n + 1) ≡ 16 ^ n * 16 = rw add-one (pow-suc 16 n) in
        let e₁ : n + suc (length (map digit_of bs)) ≡ n + 1 + length (map digit_of bs) = omega arith in
        simp (e, t₁, t₂, f, e₁) (ih (omega arith) (omega arith))

pub bits_field : (bs : List ℕ) → closing Mask (take_all Mask (num 0 0) bs) ≡ read_bits bs
unfolding read_bits bits_rest
bits_field bs = let e : 0 + length (map digit_of bs) ≡ length (map digit_of bs) = omega arith in bits_rest_lem 0 0 (omega arith) (omega arith) bs ∙ rw e
