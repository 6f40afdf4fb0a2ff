-- The fields of a record by the tables of the rules are the definition's; and they are 32-bit numbers. Assumes nothing.
use Rattle.std.specs.Prelude.{◌≡◌, refl, List, [], ◌∷◌, map, Bool, true, false, cond, ◌&&◌, ℕ, zero, suc, ◌+◌, ◌*◌, ◌^◌, ◌≤◌, ◌<◌, length, replicate, ltb, leb, eqb}
use Rattle.std.proofs.Common.{sym, ap, ◌∙◌, arith, ltb-true, leb-true, eqb-true}
use Rattle.std.proofs.lemmas.Bool.{false≢true}
use Rattle.std.proofs.Math.Option.{Option, none, some}
use native.Mathlib.Nat.{pow-suc, pow-zero, mul_assoc, mul_comm}
use Rattle.definition.specs.Text.{given, ◌>>=◌, digit_of, value_from, all_below, no_leading_zero, read_number, read_bits}
use Rattle.definition.specs.JobSheet.{Word as Named, opt, bank, class, reg, block, value, vgroup, operand, hint, seg, use', end, Form as Asked, up_to, bits, number, flag, remat, use_flags, kind_fields, word_number, read_field, read_fields, read_use, read_record}
use Rattle.sheet_rules.specs.declared.digits.Form.{Form}
use Rattle.sheet_rules.specs.declared.digits.Form.TheVariants.{Nothing, Number, Mask}
use Rattle.sheet_rules.specs.Rules.{form_of, forms, form_row, code_at, form_at, more_after, low_of, kind_after}
use Rattle.sheet_rules.specs.Places.{up_of}
use Rattle.sheet_laws.specs.Split.{field_of}

-- the values of a record's fields from field n on, the word being field 0
unfoldable pub values_of : ℕ → ℕ → ℕ → List (List ℕ) → Option (List ℕ)
values_of key kind n [] = cond (more_after key kind n) none (some [])
values_of key kind n (f ∷ fs) = field_of (form_at key kind n) f >>= λ v. values_of key (kind_after n kind v) (up_of n) fs >>= λ vs. some (v ∷ vs)

-- ---- the tables say the definition's forms

abbrev asked : Asked → Form
asked (up_to m) = Number m
asked bits = Mask

asked_field : (m : Asked) (f : List ℕ) → field_of (asked m) f ≡ read_field m f
unfolding field_of
asked_field (up_to m) f = refl
asked_field bits f = refl

-- from field n on
abbrev Says : ℕ → ℕ → ℕ → List Asked → Type 0
Says key kind n [] = (more_after key kind n ≡ false) × (form_at key kind n ≡ Nothing)
Says key kind n (m ∷ ms) = (form_at key kind n ≡ asked m) × ((more_after key kind n ≡ true) × ((v : ℕ) → Says key (kind_after n kind v) (up_of n) ms))

by_forms : (ms : List Asked) (key kind n : ℕ) → Says key kind n ms → (fs : List (List ℕ)) → values_of key kind n fs ≡ read_fields ms fs
unfolding values_of read_fields field_of
by_forms [] key kind n s [] = rw s.0
by_forms [] key kind n s (f ∷ fs) = rw s.1
by_forms (m ∷ ms) key kind n s [] = rw s.1.0
by_forms (m ∷ ms) key kind n s (f ∷ fs) =
    ap (λ (q : Form). field_of q f >>= λ v. values_of key (kind_after n kind v) (up_of n) fs >>= λ vs. some (v ∷ vs)) s.0
    ∙ ap (λ (o : Option ℕ). o >>= λ v. values_of key (kind_after n kind v) (up_of n) fs >>= λ vs. some (v ∷ vs)) (asked_field m f)
    ∙ go (read_field m f) (λ v. by_forms ms key (kind_after n kind v) (up_of n) (s.1.1 v) fs)
  where
    go : (o : Option ℕ) → ((v : ℕ) → values_of key (kind_after n kind v) (up_of n) fs ≡ read_fields ms fs)
        → (o >>= λ v. values_of key (kind_after n kind v) (up_of n) fs >>= λ vs. some (v ∷ vs)) ≡ (o >>= λ v. read_fields ms fs >>= λ vs. some (v ∷ vs))
    go none h = refl
    go (some v) h = ap (λ (r : Option (List ℕ)). r >>= λ vs. some (v ∷ vs)) (h v)

-- a vgroup's members
member_form : (kind n : ℕ) → 1 ≤ n → n ≤ 10 → form_at 6 kind n ≡ Number 4294967295
unfolding form_at code_at forms form_row form_of
member_form kind zero a b = absurd (omega arith)
member_form kind (suc zero) a b = refl
member_form kind (suc (suc zero)) a b = refl
member_form kind (suc (suc (suc zero))) a b = refl
member_form kind (suc (suc (suc (suc zero)))) a b = refl
member_form kind (suc (suc (suc (suc (suc zero))))) a b = refl
member_form kind (suc (suc (suc (suc (suc (suc zero)))))) a b = refl
member_form kind (suc (suc (suc (suc (suc (suc (suc zero))))))) a b = refl
member_form kind (suc (suc (suc (suc (suc (suc (suc (suc zero)))))))) a b = refl
member_form kind (suc (suc (suc (suc (suc (suc (suc (suc (suc zero))))))))) a b = refl
member_form kind (suc (suc (suc (suc (suc (suc (suc (suc (suc (suc zero)))))))))) a b = refl
member_form kind (suc (suc (suc (suc (suc (suc (suc (suc (suc (suc (suc n))))))))))) a b = absurd (omega arith)

up_within : (n : ℕ) → (1 ≤ up_of n) × (up_of n ≤ 10)
unfolding up_of
up_within n = go (ltb n 10) refl
  where
    go : (t : Bool) → ltb n 10 ≡ t → (1 ≤ cond t (n + 1) 10) × (cond t (n + 1) 10 ≤ 10)
    go true e = let h : n < 10 = ltb-true n 10 e in (omega arith, omega arith)
    go false e = (omega arith, omega arith)

members : (fs : List (List ℕ)) (kind n : ℕ) → 1 ≤ n → n ≤ 10 → values_of 6 kind n fs ≡ read_fields (replicate (length fs) number) fs
unfolding values_of read_fields more_after field_of
members [] kind n a b = refl
members (f ∷ fs) kind n a b =
    ap (λ (q : Form). field_of q f >>= λ v. values_of 6 (kind_after n kind v) (up_of n) fs >>= λ vs. some (v ∷ vs)) (member_form kind n a b)
    ∙ go (read_number 4294967295 f) (λ v. members fs (kind_after n kind v) (up_of n) (up_within n).0 (up_within n).1)
  where
    go : (o : Option ℕ) → ((v : ℕ) → values_of 6 (kind_after n kind v) (up_of n) fs ≡ read_fields (replicate (length fs) number) fs)
        → (o >>= λ v. values_of 6 (kind_after n kind v) (up_of n) fs >>= λ vs. some (v ∷ vs)) ≡ (o >>= λ v. read_fields (replicate (length fs) number) fs >>= λ vs. some (v ∷ vs))
    go none h = refl
    go (some v) h = ap (λ (r : Option (List ℕ)). r >>= λ vs. some (v ∷ vs)) (h v)

-- ---- 32-bit numbers

abbrev pub Small : List ℕ → Type 0
Small [] = Unit {0}
Small (n ∷ ns) = (n ≤ 4294967295) × Small ns

abbrev pub OneSmall : ℕ → Option ℕ → Type 0
OneSmall most none = Unit {0}
OneSmall most (some n) = n ≤ most

abbrev pub AllSmall : Option (List ℕ) → Type 0
AllSmall none = Unit {0}
AllSmall (some ns) = Small ns

last_true : (a b : Bool) → a && b ≡ true → b ≡ true
last_true true b e = e
last_true false b e = absurd (false≢true e)

first_true : (a b : Bool) → a && b ≡ true → a ≡ true
first_true true b e = refl
first_true false b e = absurd (false≢true e)

pub number_small : (most : ℕ) (f : List ℕ) → OneSmall most (read_number most f)
unfolding read_number
number_small most f = go (all_below 10 (map digit_of f) && no_leading_zero (map digit_of f) && leb (value_from 10 0 (map digit_of f)) most) refl
  where
    go : (t : Bool) → all_below 10 (map digit_of f) && no_leading_zero (map digit_of f) && leb (value_from 10 0 (map digit_of f)) most ≡ t → OneSmall most (given t (value_from 10 0 (map digit_of f)))
    go true e = leb-true (value_from 10 0 (map digit_of f)) most (last_true (all_below 10 (map digit_of f) && no_leading_zero (map digit_of f)) (leb (value_from 10 0 (map digit_of f)) most) e)
    go false e = tt

-- the digits of a base spell less than its power
under : (b : ℕ) (ds : List ℕ) (v : ℕ) → all_below b ds ≡ true → value_from b v ds < (v + 1) * b ^ length ds
unfolding value_from
under b [] v a = let e : b ^ 0 ≡ 1 = pow-zero b in rw e (omega arith)
under b (x ∷ xs) v a =
    let p : x < b = ltb-true x b (first_true (ltb x b) (all_below b xs) a) in
    let i : value_from b (v * b + x) xs < (v * b + x + 1) * b ^ length xs = under b xs (v * b + x) (last_true (ltb x b) (all_below b xs) a) in
    let d : (v + 1) * b ≡ v * b + b = native.Mathlib.Nat.add-mul v 1 b ∙ ap (λ (k : ℕ). v * b + k) (native.Mathlib.Nat.one-mul b) in
    let h : v * b + x + 1 ≤ (v + 1) * b = omega arith in
    let g : (v * b + x + 1) * b ^ length xs ≤ (v + 1) * b * b ^ length xs = native.Mathlib.Nat.mul-le-mul_right (b ^ length xs) h in
    let e : (v + 1) * b ^ suc (length xs) ≡ (v + 1) * b * b ^ length xs = ap (λ (k : ℕ). (v + 1) * k) (pow-suc b (length xs) ∙ mul_comm (b ^ length xs) b) ∙ sym (mul_assoc (v + 1) b (b ^ length xs)) in
    omega arith

pub bits_small : (f : List ℕ) → OneSmall 4294967295 (read_bits f)
unfolding read_bits
bits_small f = go (eqb (length (map digit_of f)) 8 && all_below 16 (map digit_of f)) refl
  where
    go : (t : Bool) → eqb (length (map digit_of f)) 8 && all_below 16 (map digit_of f) ≡ t → OneSmall 4294967295 (given t (value_from 16 0 (map digit_of f)))
    go true e =
        let l : length (map digit_of f) ≡ 8 = eqb-true (length (map digit_of f)) 8 (first_true (eqb (length (map digit_of f)) 8) (all_below 16 (map digit_of f)) e) in
        let u : value_from 16 0 (map digit_of f) < (0 + 1) * 16 ^ length (map digit_of f) = under 16 (map digit_of f) 0 (last_true (eqb (length (map digit_of f)) 8) (all_below 16 (map digit_of f)) e) in
        let w : 16 ^ length (map digit_of f) ≡ 16 ^ 8 = ap (λ (k : ℕ). 16 ^ k) l in
        omega arith
    go false e = tt

abbrev Low : Asked → Type 0
Low (up_to m) = m ≤ 4294967295
Low bits = Unit {0}

abbrev Lows : List Asked → Type 0
Lows [] = Unit {0}
Lows (m ∷ ms) = Low m × Lows ms

field_small : (m : Asked) → Low m → (f : List ℕ) → OneSmall 4294967295 (read_field m f)
field_small (up_to m) h f = go (read_number m f) (number_small m f)
  where
    go : (o : Option ℕ) → OneSmall m o → OneSmall 4294967295 o
    go none k = tt
    go (some n) k = omega arith
field_small bits h f = bits_small f

fields_small : (ms : List Asked) → Lows ms → (fs : List (List ℕ)) → AllSmall (read_fields ms fs)
unfolding read_fields
fields_small [] h [] = tt
fields_small [] h (f ∷ fs) = tt
fields_small (m ∷ ms) h [] = tt
fields_small (m ∷ ms) h (f ∷ fs) = go (read_field m f) (field_small m h.0 f) (read_fields ms fs) (fields_small ms h.1 fs)
  where
    go : (o : Option ℕ) → OneSmall 4294967295 o → (q : Option (List ℕ)) → AllSmall q → AllSmall (o >>= λ n. q >>= λ ns. some (n ∷ ns))
    go none k q l = tt
    go (some n) k none l = tt
    go (some n) k (some ns) l = (k, l)

numbers_low : (n : ℕ) → Lows (replicate n number)
numbers_low zero = tt
numbers_low (suc n) = (omega arith, numbers_low n)

use_small : (fs : List (List ℕ)) → AllSmall (read_use fs)
unfolding read_use
use_small [] = tt
use_small (f ∷ fs) = go (read_number 9 f) (number_small 9 f)
  where
    later : (k : ℕ) → k ≤ 9 → (q : Option (List ℕ)) → AllSmall q → AllSmall (q >>= λ ns. some (k ∷ ns))
    later k h none l = tt
    later k h (some ns) l = (omega arith, l)

    go : (o : Option ℕ) → OneSmall 9 o → AllSmall (o >>= λ k. read_fields (number ∷ replicate (kind_fields k) number) fs >>= λ ns. some (k ∷ ns))
    go none h = tt
    go (some k) h = later k h (read_fields (number ∷ replicate (kind_fields k) number) fs) (fields_small (number ∷ replicate (kind_fields k) number) (omega arith, numbers_low (kind_fields k)) fs)

pub record_small : (w : Named) (fs : List (List ℕ)) → AllSmall (read_record w fs)
unfolding read_record
record_small opt fs = fields_small (number ∷ bits ∷ bits ∷ bits ∷ []) (omega arith, (tt, (tt, (tt, tt)))) fs
record_small bank fs = fields_small (number ∷ []) (omega arith, tt) fs
record_small class fs = fields_small (bits ∷ bits ∷ number ∷ flag ∷ []) (tt, (tt, (omega arith, (omega arith, tt)))) fs
record_small reg fs = fields_small (flag ∷ []) (omega arith, tt) fs
record_small block fs = fields_small (number ∷ bits ∷ []) (omega arith, (tt, tt)) fs
record_small value fs = fields_small (number ∷ number ∷ remat ∷ []) (omega arith, (omega arith, (omega arith, tt))) fs
record_small vgroup fs = fields_small (replicate (length fs) number) (numbers_low (length fs)) fs
record_small operand fs = fields_small (number ∷ number ∷ number ∷ number ∷ []) (numbers_low 4) fs
record_small hint fs = fields_small (number ∷ number ∷ flag ∷ []) (omega arith, (omega arith, (omega arith, tt))) fs
record_small seg fs = fields_small (number ∷ number ∷ number ∷ use_flags ∷ []) (omega arith, (omega arith, (omega arith, (omega arith, tt)))) fs
record_small use' fs = use_small fs
record_small end fs = fields_small [] tt fs

-- ---- the law, record by record

use_values : (fs : List (List ℕ)) → values_of 10 0 1 fs ≡ read_use fs
unfolding values_of read_use field_of form_at code_at forms form_row form_of more_after kind_after up_of low_of
use_values [] = refl
use_values (f ∷ fs) = go (read_number 9 f) (number_small 9 f)
  where
    by : (k : ℕ) → k ≤ 9 → values_of 10 (low_of k) 2 fs ≡ read_fields (number ∷ replicate (kind_fields k) number) fs
    by zero h = by_forms (number ∷ number ∷ []) 10 0 2 (refl, (refl, λ v. (refl, (refl, λ v. (refl, refl))))) fs
    by (suc zero) h = by_forms (number ∷ number ∷ []) 10 1 2 (refl, (refl, λ v. (refl, (refl, λ v. (refl, refl))))) fs
    by (suc (suc zero)) h = by_forms (number ∷ replicate 4 number) 10 2 2 (refl, (refl, λ v. (refl, (refl, λ v. (refl, (refl, λ v. (refl, (refl, λ v. (refl, (refl, λ v. (refl, refl))))))))))) fs
    by (suc (suc (suc zero))) h = by_forms (number ∷ []) 10 3 2 (refl, (refl, λ v. (refl, refl))) fs
    by (suc (suc (suc (suc zero)))) h = by_forms (number ∷ replicate 2 number) 10 4 2 (refl, (refl, λ v. (refl, (refl, λ v. (refl, (refl, λ v. (refl, refl))))))) fs
    by (suc (suc (suc (suc (suc zero))))) h = by_forms (number ∷ replicate 2 number) 10 5 2 (refl, (refl, λ v. (refl, (refl, λ v. (refl, (refl, λ v. (refl, refl))))))) fs
    by (suc (suc (suc (suc (suc (suc zero)))))) h = by_forms (number ∷ replicate 3 number) 10 6 2 (refl, (refl, λ v. (refl, (refl, λ v. (refl, (refl, λ v. (refl, (refl, λ v. (refl, refl))))))))) fs
    by (suc (suc (suc (suc (suc (suc (suc zero))))))) h = by_forms (number ∷ replicate 3 number) 10 7 2 (refl, (refl, λ v. (refl, (refl, λ v. (refl, (refl, λ v. (refl, (refl, λ v. (refl, refl))))))))) fs
    by (suc (suc (suc (suc (suc (suc (suc (suc zero)))))))) h = by_forms (number ∷ number ∷ []) 10 8 2 (refl, (refl, λ v. (refl, (refl, λ v. (refl, refl))))) fs
    by (suc (suc (suc (suc (suc (suc (suc (suc (suc zero))))))))) h = by_forms (number ∷ []) 10 9 2 (refl, (refl, λ v. (refl, refl))) fs
    by (suc (suc (suc (suc (suc (suc (suc (suc (suc (suc k)))))))))) h = absurd (omega arith)

    go : (o : Option ℕ) → OneSmall 9 o
        → (o >>= λ v. values_of 10 (low_of v) 2 fs >>= λ vs. some (v ∷ vs)) ≡ (o >>= λ k. read_fields (number ∷ replicate (kind_fields k) number) fs >>= λ ns. some (k ∷ ns))
    go none h = refl
    go (some k) h = ap (λ (r : Option (List ℕ)). r >>= λ vs. some (k ∷ vs)) (by k h)

pub record_values : (w : Named) (fs : List (List ℕ)) → values_of (word_number w) 0 1 fs ≡ read_record w fs
unfolding read_record form_at code_at forms form_row form_of more_after up_of
record_values opt fs = by_forms (number ∷ bits ∷ bits ∷ bits ∷ []) 0 0 1 (refl, (refl, λ v. (refl, (refl, λ v. (refl, (refl, λ v. (refl, (refl, λ v. (refl, refl))))))))) fs
record_values bank fs = by_forms (number ∷ []) 1 0 1 (refl, (refl, λ v. (refl, refl))) fs
record_values class fs = by_forms (bits ∷ bits ∷ number ∷ flag ∷ []) 2 0 1 (refl, (refl, λ v. (refl, (refl, λ v. (refl, (refl, λ v. (refl, (refl, λ v. (refl, refl))))))))) fs
record_values reg fs = by_forms (flag ∷ []) 3 0 1 (refl, (refl, λ v. (refl, refl))) fs
record_values block fs = by_forms (number ∷ bits ∷ []) 4 0 1 (refl, (refl, λ v. (refl, (refl, λ v. (refl, refl))))) fs
record_values value fs = by_forms (number ∷ number ∷ remat ∷ []) 5 0 1 (refl, (refl, λ v. (refl, (refl, λ v. (refl, (refl, λ v. (refl, refl))))))) fs
record_values vgroup fs = members fs 0 1 (omega arith) (omega arith)
record_values operand fs = by_forms (number ∷ number ∷ number ∷ number ∷ []) 7 0 1 (refl, (refl, λ v. (refl, (refl, λ v. (refl, (refl, λ v. (refl, (refl, λ v. (refl, refl))))))))) fs
record_values hint fs = by_forms (number ∷ number ∷ flag ∷ []) 8 0 1 (refl, (refl, λ v. (refl, (refl, λ v. (refl, (refl, λ v. (refl, refl))))))) fs
record_values seg fs = by_forms (number ∷ number ∷ number ∷ use_flags ∷ []) 9 0 1 (refl, (refl, λ v. (refl, (refl, λ v. (refl, (refl, λ v. (refl, (refl, λ v. (refl, refl))))))))) fs
record_values use' fs = use_values fs
record_values end fs = by_forms [] 11 0 1 (refl, refl) fs
