-- A line of the forms is one of 22. Assumes nothing.
use mathlib.Core.Path.{◌≡◌, refl}
use mathlib.Core.Bool.{Bool, true, false, cond}
use Prim.Native.Nat.{ℕ, ◌+◌, ◌<◌}
use native.Mathlib.Omega.{arith}
use lib.Dec.{ltb, eqb}
use borrow.Author.Tests.{ltb-true}
use Rattle.sheet_rules.specs.Rules.{form_row}

pub picked : (b : Bool) (m x y : ℕ) → x < m → y < m → cond b x y < m
picked true m x y p q = p
picked false m x y p q = q

pub form_row_lt : (key kind n : ℕ) → form_row key kind n < 22
unfolding form_row
form_row_lt key kind n = picked (eqb key 10) 22 _ _ (picked (ltb n 3) 22 _ _ (omega arith) (go (ltb kind 10) refl)) (go' (ltb key 12) refl)
  where
    go : (b : Bool) → ltb kind 10 ≡ b → cond b (12 + kind) 11 < 22
    go true e = let h : kind < 10 = ltb-true kind 10 e in omega arith
    go false e = omega arith

    go' : (b : Bool) → ltb key 12 ≡ b → cond b key 11 < 22
    go' true e = let h : key < 12 = ltb-true key 12 e in omega arith
    go' false e = omega arith
