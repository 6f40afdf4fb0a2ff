-- Where no order is asked for, a number above 12 has none's answer. Assumes nothing.
use mathlib.Core.Path.{◌≡◌, refl, sym, ap, ◌∙◌}
use mathlib.Core.Bool.{Bool, true, false, cond}
use Prim.Native.Nat.{ℕ, ◌+◌, ◌*◌, ◌<◌, ◌≤◌}
use native.Mathlib.Omega.{arith}
use native.Mathlib.Nat.{min-eq_left, min-eq_right}
use lib.ListN.{get_or}
use lib.Dec.{ltb, eqb}
use borrow.Author.Tests.{ltb-true, ltb-false, lt-ltb, le-ltb, ne_eqb}
use Rattle.std.specs.Prelude.{min}
use Rattle.sheet_rules.specs.Rules.{forms, form_of, form_row, code_at, form_at, more_after}
use Rattle.sheet_rules.specs.Places.{limit_of, count_at, stored_of, place_of, tail_at, tail_of}

shown : {X : Type 0} (f : ℕ → X) → ((k : ℕ) → 12 ≤ k → f k ≡ f 12) → (k : ℕ) → f (min k 12) ≡ f k
shown f h k = go (ltb k 12) refl
  where
    go : (b : Bool) → ltb k 12 ≡ b → f (min k 12) ≡ f k
    go true e = let l : k < 12 = ltb-true k 12 e in ap f (min-eq_left {n = k} {m = 12} (omega arith))
    go false e = let l : 12 ≤ k = ltb-false k 12 e in ap f (min-eq_right {n = 12} {m = k} l) ∙ sym (h k l)

other : (k m : ℕ) → m < 12 → 12 ≤ k → eqb k m ≡ false
other k m p q = ne_eqb k m (λ e. omega arith)

row_more : (kind n k : ℕ) → 12 ≤ k → form_row k kind n ≡ form_row 12 kind n
unfolding form_row
row_more kind n k h = rw (other k 10 (omega arith) h, le-ltb k 12 h) refl

row_shown : (key kind n : ℕ) → form_row (min key 12) kind n ≡ form_row key kind n
row_shown key kind n = shown (λ k. form_row k kind n) (row_more kind n) key

code_shown : (key kind n : ℕ) → code_at (min key 12) kind n ≡ code_at key kind n
unfolding code_at
code_shown key kind n = ap (λ (r : ℕ). cond (ltb 10 n) 0 (get_or forms (r * 11 + n) 0)) (row_shown key kind n)

pub form_shown : (key kind n : ℕ) → form_at (min key 12) kind n ≡ form_at key kind n
unfolding form_at
form_shown key kind n = ap form_of (code_shown key kind n)

vgroup_shown : (key : ℕ) → eqb (min key 12) 6 ≡ eqb key 6
vgroup_shown key = shown (λ k. eqb k 6) (λ k h. other k 6 (omega arith) h) key

seg_shown : (key : ℕ) → eqb (min key 12) 9 ≡ eqb key 9
seg_shown key = shown (λ k. eqb k 9) (λ k h. other k 9 (omega arith) h) key

pub more_shown : (key kind n : ℕ) → more_after (min key 12) kind n ≡ more_after key kind n
unfolding more_after
more_shown key kind n = rw (vgroup_shown key, code_shown key kind n) refl

pub limit_shown : (key : ℕ) → limit_of (min key 12) ≡ limit_of key
unfolding limit_of
limit_shown key = shown limit_of (λ k h. rw (lt-ltb 11 k h) refl) key

stored_shown : (key : ℕ) → stored_of (min key 12) ≡ stored_of key
unfolding stored_of
stored_shown key = shown stored_of (λ k h. rw (lt-ltb 11 k h) refl) key

pub count_shown : (key : ℕ) → count_at (min key 12) ≡ count_at key
unfolding count_at
count_shown key = shown count_at (λ k h. rw (le-ltb k 1 (omega arith), lt-ltb 10 k (omega arith)) refl) key

pub place_shown : (key row n : ℕ) → place_of (min key 12) row n ≡ place_of key row n
unfolding place_of
place_shown key row n = rw (vgroup_shown key, stored_shown key) refl

pub tail_at_shown : (key row : ℕ) → tail_at (min key 12) row ≡ tail_at key row
unfolding tail_at
tail_at_shown key row = rw (vgroup_shown key, seg_shown key) refl

pub tail_shown : (key n uses : ℕ) → tail_of (min key 12) n uses ≡ tail_of key n uses
unfolding tail_of
tail_shown key n uses = rw (seg_shown key) refl
