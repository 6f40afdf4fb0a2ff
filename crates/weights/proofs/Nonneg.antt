-- What the operations of a weight make of values that are not negative: no NaN arises. Assumes nothing.
use mathlib.Core.Path.{◌≡◌, sym, subst}
use Prim.Native.Nat.{ℕ, zero, suc, ◌+◌, ◌*◌, ◌^◌, ◌≤◌, ◌<◌}
use native.Mathlib.Omega.{arith}
use mathlib.Core.Bool.{Bool, true, false, not, cond}
use lib.IntN.{pos}
use lib.Dec.{T, ltb, eqb, ltb→lt, eqb→eq}
use lib.Ieee.{Float, nan, inf, fin, Format, binary32, prec, emax, low, odd, units, round, add, mul, div, lt, of_int, is_nan}
use lib.Ieee.Fits.{round_is, cond-fits}
use lib.Ieee.Back.{round_whole}
use lib.Ieee.Positive.{positive, positive_of_value}
use Rattle.definition.specs.Entry.{plain}
use Rattle.definition.specs.Weights.{min_f, max_f}
use Rattle.weights.specs.Nonneg.{nonneg, Weight}

pub plain_nonneg : (x : Float) → T (plain x) → T (nonneg x)
plain_nonneg nan p = p
plain_nonneg (inf s) p = absurd p
plain_nonneg (fin s m e) p = p

pub nonneg_number : (x : Float) → T (nonneg x) → T (not (is_nan x))
unfolding is_nan
nonneg_number nan p = absurd p
nonneg_number (inf s) p = tt
nonneg_number (fin s m e) p = tt

pub cond_nonneg : (b : Bool) (x y : Float) → T (nonneg x) → T (nonneg y) → T (nonneg (cond b x y))
cond_nonneg true x y p q = p
cond_nonneg false x y p q = q

-- ---- rounding
pub odd_plain : (d q k l : ℕ) → T (plain (odd d false q k l))
unfolding odd
odd_plain d zero k l = tt
odd_plain d (suc q) k l = tt

units_nonneg : (f : Format) (q k : ℕ) → T (nonneg (units f false q k))
unfolding units
units_nonneg f q k =
    cond_nonneg (ltb (q * 2 ^ k) (2 ^ (low f + suc (emax f)))) (odd (suc (prec f)) false q k (low f)) (inf false)
    (plain_nonneg (odd (suc (prec f)) false q k (low f)) (odd_plain (suc (prec f)) q k (low f))) tt

pub round_nonneg : (f : Format) (n d : ℕ) → T (nonneg (round f false n d))
round_nonneg f n d = subst (λ (x : Float). T (nonneg x)) (sym (round_is f false n d)) (units_nonneg f _ _)

-- ---- the operations
pub add_nonneg : (f : Format) (x y : Float) → T (nonneg x) → T (nonneg y) → T (nonneg (add f x y))
unfolding add
add_nonneg f nan y p q = absurd p
add_nonneg f (inf true) y p q = absurd p
add_nonneg f (inf false) nan p q = absurd q
add_nonneg f (inf false) (inf true) p q = absurd q
add_nonneg f (inf false) (inf false) p q = tt
add_nonneg f (inf false) (fin t n d) p q = tt
add_nonneg f (fin true m e) y p q = absurd p
add_nonneg f (fin false m e) nan p q = absurd q
add_nonneg f (fin false m e) (inf t) p q = q
add_nonneg f (fin false m e) (fin true n d) p q = absurd q
add_nonneg f (fin false m e) (fin false n d) p q = round_nonneg f _ _

pub mul_nonneg : (f : Format) (x y : Float) → T (plain x) → T (plain y) → T (nonneg (mul f x y))
unfolding mul
mul_nonneg f nan y p q = absurd p
mul_nonneg f (inf s) y p q = absurd p
mul_nonneg f (fin true m e) y p q = absurd p
mul_nonneg f (fin false m e) nan p q = absurd q
mul_nonneg f (fin false m e) (inf t) p q = absurd q
mul_nonneg f (fin false m e) (fin true n d) p q = absurd q
mul_nonneg f (fin false m e) (fin false n d) p q = round_nonneg f _ _

div_cond : (n : ℕ) (x y : Float) → 0 < n → T (nonneg y) → T (nonneg (cond (eqb n 0) x y))
div_cond n x y h q = go (eqb n 0) (eqb→eq n 0)
  where
    none : n ≡ 0 → ⊥
    none e = omega arith

    go : (b : Bool) → (T b → n ≡ 0) → T (nonneg (cond b x y))
    go true k = absurd (none (k tt))
    go false k = q

pub div_nonneg : (f : Format) (x y : Float) → T (nonneg x) → T (positive y) → T (nonneg (div f x y))
unfolding div
div_nonneg f nan y p q = absurd p
div_nonneg f (inf true) y p q = absurd p
div_nonneg f (inf false) nan p q = absurd q
div_nonneg f (inf false) (inf t) p q = absurd q
div_nonneg f (inf false) (fin true n d) p q = absurd q
div_nonneg f (inf false) (fin false n d) p q = tt
div_nonneg f (fin true m e) y p q = absurd p
div_nonneg f (fin false m e) nan p q = absurd q
div_nonneg f (fin false m e) (inf t) p q = absurd q
div_nonneg f (fin false m e) (fin true n d) p q = absurd q
div_nonneg f (fin false m e) (fin false n d) p q = div_cond n _ _ (ltb→lt 0 n q) (round_nonneg f _ _)

-- ---- a count as a float
pub count_positive : (n : ℕ) → 0 < n → n ≤ 16777216 → T (positive (of_int binary32 (pos n)))
unfolding of_int
count_positive n h k = positive_of_value (round binary32 false n 1) n 1 (round_whole binary32 false n k) h

-- ---- the lesser of two
pub min_second : (x y : Float) → lt y x ≡ true → y ≡ min_f x y
unfolding min_f
min_second x y e = rw e

pub min_first : (x y : Float) → lt y x ≡ false → x ≡ min_f x y
unfolding min_f
min_first x y e = rw e

pub min_weight : (x y : Float) → Weight x → Weight y → Weight (min_f x y)
unfolding min_f
min_weight x y p q = (cond_nonneg (lt y x) y x q.0 p.0, cond-fits binary32 (lt y x) y x q.1 p.1)

-- at most `f32::MAX`: an infinity is cut down
pub min_plain : (x : Float) → T (nonneg x) → T (plain (min_f x max_f))
unfolding min_f lt
min_plain nan p = absurd p
min_plain (inf true) p = absurd p
min_plain (inf false) p = tt
min_plain (fin true m e) p = absurd p
min_plain (fin false m e) p = go (lt max_f (fin false m e))
  where
    go : (b : Bool) → T (plain (cond b max_f (fin false m e)))
    go true = tt
    go false = tt
