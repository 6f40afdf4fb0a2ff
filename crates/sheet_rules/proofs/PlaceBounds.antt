-- The tables' entries are small. Assumes nothing.
use mathlib.Core.Path.{◌≡◌, refl}
use mathlib.Core.List.{List, [], ◌∷◌}
use mathlib.Core.Bool.{Bool, true, false, cond}
use Prim.Native.Nat.{ℕ, zero, suc, ◌+◌, ◌*◌, ◌≤◌, ◌<◌}
use native.Mathlib.Omega.{arith}
use native.Mathlib.Nat.{mul-le-mul}
use lib.ListN.{get_or}
use lib.Dec.{ltb}
use borrow.Author.Tests.{ltb-true}
use Rattle.sheet_rules.specs.Places.{limit_of, base_of, width_of, limits, bases, widths}

abbrev All : ℕ → List ℕ → Type 0
All m [] = Unit {0}
All m (x ∷ xs) = (ltb x m ≡ true) × All m xs

below : (m : ℕ) → 0 < m → (xs : List ℕ) → All m xs → (i : ℕ) → get_or xs i 0 < m
below m z [] a i = z
below m z (x ∷ xs) a zero = ltb-true x m a.0
below m z (x ∷ xs) a (suc i) = below m z xs a.1 i

picked : (b : Bool) (m x y : ℕ) → x < m → y < m → cond b x y < m
picked true m x y p q = p
picked false m x y p q = q

limit_lt : (k : ℕ) → limit_of k < 5000
unfolding limit_of limits
limit_lt k = picked (ltb 11 k) 5000 0 _ (omega arith) (below 5000 (omega arith) limits (refl, (refl, (refl, (refl, (refl, (refl, (refl, (refl, (refl, (refl, (refl, (refl, tt)))))))))))) k)

base_lt : (k : ℕ) → base_of k < 60000
unfolding base_of bases
base_lt k = picked (ltb 11 k) 60000 0 _ (omega arith) (below 60000 (omega arith) bases (refl, (refl, (refl, (refl, (refl, (refl, (refl, (refl, (refl, (refl, (refl, (refl, tt)))))))))))) k)

width_lt : (k : ℕ) → width_of k < 10
unfolding width_of widths
width_lt k = picked (ltb 11 k) 10 0 _ (omega arith) (below 10 (omega arith) widths (refl, (refl, (refl, (refl, (refl, (refl, (refl, (refl, (refl, (refl, (refl, (refl, tt)))))))))))) k)

pub within : (k c : ℕ) → c < limit_of k → base_of k + c * width_of k < 110000
within k c h =
    let w : width_of k ≤ 10 = omega (arith, width_lt k) in
    let l : c ≤ 5000 = omega (arith, limit_lt k) in
    let p : c * width_of k ≤ 5000 * 10 = mul-le-mul l w in
    omega (arith, base_lt k)
