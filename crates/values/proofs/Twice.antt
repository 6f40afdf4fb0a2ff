-- No two operands at one place: each operand against those before it. Assumes nothing.
use mathlib.Core.Path.{◌≡◌, refl, sym, ap, ap₂, ◌∙◌}
use mathlib.Core.Bool.{Bool, true, false, not, ◌&&◌, ◌||◌}
use mathlib.Core.List.{List, [], ◌∷◌, ◌++◌}
use Prim.Native.Nat.{ℕ, zero, suc, ◌+◌, ◌≤◌, ◌<◌}
use native.Mathlib.Numerals.{add-one}
use native.Mathlib.Omega.{arith}
use lib.ListN.{length, take, drop, take-append-drop}
use lib.Seq.{take-suc, take_all}
use Rattle.definition.specs.declared.Operand.{Operand}
use Rattle.words.specs.Tab.{tab}
use Rattle.definition.specs.Entry.{some_is, every, apart, same_place}
use Rattle.std.specs.Prelude.{Some, is_some, cond}
use Rattle.values.specs.OperandRows.{no_operand, op_at, is_at, last_place, taken_before}

pub never : {A : Type 0} → ◌≡◌ {A = Bool} true false → A
never e = let z : ◌≡◌ {A = ℕ} 0 1 = cc in absurd (omega arith)

or_assoc : (a b c : Bool) → (a || b) || c ≡ a || (b || c)
or_assoc true b c = refl
or_assoc false b c = refl

or_true : (a : Bool) → a || true ≡ true
or_true true = refl
or_true false = refl

or_false : (a : Bool) → a || false ≡ a
or_false true = refl
or_false false = refl

module _ {A : Type 0} (f : A → Bool) where
  pub some_append : (xs ys : List A) → some_is f (xs ++ ys) ≡ some_is f xs || some_is f ys
  unfolding some_is
  some_append [] ys = refl
  some_append (x ∷ xs) ys = ap (λ (b : Bool). f x || b) (some_append xs ys) ∙ sym (or_assoc (f x) (some_is f xs) (some_is f ys))

-- one of the first k operands is at the place if the search finds one
pub some_place : (os : List Operand) (k i s : ℕ) → k ≤ length os → some_is (is_at i s) (take k os) ≡ is_some (last_place os k i s)
unfolding some_is last_place
some_place os zero i s h = refl
some_place os (suc k) i s h =
    ap (λ (l : List Operand). some_is (is_at i s) l) (take-suc os k no_operand (omega arith))
    ∙ some_append (is_at i s) (take k os) (op_at os k ∷ [])
    ∙ go (is_at i s (op_at os k)) (some_place os k i s (omega arith))
  where
    go : (b : Bool) → some_is (is_at i s) (take k os) ≡ is_some (last_place os k i s)
        → some_is (is_at i s) (take k os) || (b || false) ≡ is_some (cond b (Some k) (last_place os k i s))
    go true ih = or_true (some_is (is_at i s) (take k os))
    go false ih = or_false (some_is (is_at i s) (take k os)) ∙ ih

shuffle : (a b p q : Bool) → not (a || (b || false)) && (p && not q) ≡ (not a && p) && not (b || q)
shuffle true b p q = refl
shuffle false true true q = refl
shuffle false true false q = refl
shuffle false false p q = refl

-- one operand more
pub apart_snoc : (xs : List Operand) (y : Operand) → apart same_place (xs ++ (y ∷ [])) ≡ apart same_place xs && not (some_is (is_at y.inst.0 y.slot) xs)
unfolding apart some_is
apart_snoc [] y = refl
apart_snoc (x ∷ xs) y =
    ap₂ (λ (a b : Bool). not a && b) (some_append (same_place x) xs (y ∷ [])) (apart_snoc xs y)
    ∙ shuffle (some_is (same_place x) xs) (same_place x y) (apart same_place xs) (some_is (is_at y.inst.0 y.slot) xs)

pub apart_step : (os : List Operand) (k : ℕ) → k < length os → apart same_place (take (k + 1) os) ≡ apart same_place (take k os) && not (taken_before os k)
unfolding taken_before
apart_step os k h =
    ap (λ (n : ℕ). apart same_place (take n os)) (add-one k)
    ∙ ap (λ (l : List Operand). apart same_place l) (take-suc os k no_operand h)
    ∙ apart_snoc (take k os) (op_at os k)
    ∙ ap (λ (b : Bool). apart same_place (take k os) && not b) (some_place os k (op_at os k).inst.0 (op_at os k).slot (omega arith))

-- two alike among the first stay alike among all
pub apart_first : (xs ys : List Operand) → apart same_place xs ≡ false → apart same_place (xs ++ ys) ≡ false
unfolding apart some_is
apart_first [] ys e = never e
apart_first (x ∷ xs) ys e =
    ap (λ (b : Bool). not b && apart same_place (xs ++ ys)) (some_append (same_place x) xs ys)
    ∙ go (some_is (same_place x) xs) (some_is (same_place x) ys) (apart same_place xs) (apart same_place (xs ++ ys)) e (apart_first xs ys)
  where
    go : (a b p q : Bool) → not a && p ≡ false → (p ≡ false → q ≡ false) → not (a || b) && q ≡ false
    go true b p q h f = refl
    go false true p q h f = refl
    go false false p q h f = f h

-- the first i are apart: all are, if none of the n operands from i on is again at a place before it
rest_apart : (os : List Operand) (i n : ℕ) → i + n ≡ length os → apart same_place (take i os) ≡ true → every (λ k. not (taken_before os k)) (tab (λ k. k) i n) ≡ apart same_place os
unfolding every
rest_apart os i zero l e = sym (ap (λ (r : List Operand). apart same_place r) (sym (take_all i os (omega arith))) ∙ e)
rest_apart os i (suc n) l e = go (taken_before os i) refl (rest_apart os (i + 1) n (omega arith))
  where
    go : (b : Bool) → taken_before os i ≡ b
        → (apart same_place (take (i + 1) os) ≡ true → every (λ k. not (taken_before os k)) (tab (λ k. k) (i + 1) n) ≡ apart same_place os)
        → not b && every (λ k. not (taken_before os k)) (tab (λ k. k) (i + 1) n) ≡ apart same_place os
    go true q ih =
        let z : apart same_place (take (i + 1) os) ≡ false = apart_step os i (omega arith) ∙ rw (e, q) in
        sym (ap (λ (r : List Operand). apart same_place r) (sym (take-append-drop (i + 1) os)) ∙ apart_first (take (i + 1) os) (drop (i + 1) os) z)
    go false q ih = ih (apart_step os i (omega arith) ∙ rw (e, q))

pub apart_by : (os : List Operand) (n : ℕ) → length os ≡ n → every (λ k. not (taken_before os k)) (tab (λ k. k) 0 n) ≡ apart same_place os
unfolding apart
apart_by os n l = rest_apart os 0 n (omega arith) refl
