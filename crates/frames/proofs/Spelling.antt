-- Numbers read digit by digit. Assumes nothing.
use mathlib.Core.Path.{◌≡◌, refl, sym, ap, ◌∙◌}
use mathlib.Core.Bool.{Bool, cond}
use mathlib.Core.List.{List}
use Prim.Native.Nat.{ℕ, suc, ◌+◌, ◌-◌, ◌*◌, ◌^◌, ◌≤◌, ◌<◌}
use native.Mathlib.Omega.{arith}
use native.Mathlib.Nat.{pow-suc}
use native.Mathlib.Numerals.{add-one}
use lib.Dec.{ltb}
use lib.ListN.{get_or}
use borrow.Author.Tests.{lt-ltb, le-ltb}
use Rattle.definition.specs.Text.{digit_of}
use Rattle.frames.specs.Frames.{spelled}

-- i digits spell v
pub record Spelling (head : List ℕ) (at v i : ℕ) : Type 0 where
  pub within : i ≤ 8
  pub small : v < 10 ^ i
  pub is : spelled head at 8 0 ≡ spelled head (at + i) (8 - i) v

one_digit : (head : List ℕ) (at k v : ℕ) → spelled head at (suc k) v ≡ cond (ltb 9 (digit_of (get_or head at 0))) 100000000 (spelled head (suc at) k (v * 10 + digit_of (get_or head at 0)))
unfolding spelled
one_digit head at k v = refl

pub spelling_next : (head : List ℕ) (at v i d : ℕ) → Spelling head at v i → i < 8 → d ≡ digit_of (get_or head (at + i) 0) → d ≤ 9 → Spelling head at (v * 10 + d) (i + 1)
spelling_next head at v i d s h e l =
    let n : 8 - i ≡ suc (8 - (i + 1)) = omega arith in
    let m : suc (at + i) ≡ at + (i + 1) = omega arith in
    record {
      within = omega (arith, h);
      small = let p : 10 ^ (i + 1) ≡ 10 ^ i * 10 = ap (λ (j : ℕ). 10 ^ j) (add-one i) ∙ pow-suc 10 i in omega (arith, p, s.small, l);
      is =
          s.is ∙ ap (λ (k : ℕ). spelled head (at + i) k v) n ∙ one_digit head (at + i) (8 - (i + 1)) v
          ∙ ap (λ (b : Bool). cond b 100000000 (spelled head (suc (at + i)) (8 - (i + 1)) (v * 10 + digit_of (get_or head (at + i) 0)))) (le-ltb 9 (digit_of (get_or head (at + i) 0)) (omega (arith, e, l)))
          ∙ ap (λ (j : ℕ). spelled head j (8 - (i + 1)) (v * 10 + digit_of (get_or head (at + i) 0))) m
          ∙ ap (λ (x : ℕ). spelled head (at + (i + 1)) (8 - (i + 1)) (v * 10 + x)) (sym e);
    }

pub spelling_none : (head : List ℕ) (at v i d : ℕ) → Spelling head at v i → i < 8 → d ≡ digit_of (get_or head (at + i) 0) → 9 < d → 100000000 ≡ spelled head at 8 0
spelling_none head at v i d s h e l =
    let n : 8 - i ≡ suc (8 - (i + 1)) = omega arith in
    sym
    (s.is ∙ ap (λ (k : ℕ). spelled head (at + i) k v) n ∙ one_digit head (at + i) (8 - (i + 1)) v
    ∙ ap (λ (b : Bool). cond b 100000000 (spelled head (suc (at + i)) (8 - (i + 1)) (v * 10 + digit_of (get_or head (at + i) 0)))) (lt-ltb 9 (digit_of (get_or head (at + i) 0)) (omega (arith, e, l))))

pub spelling_done : (head : List ℕ) (at v i : ℕ) → Spelling head at v i → 8 ≤ i → v ≡ spelled head at 8 0
unfolding spelled
spelling_done head at v i s h = let n : 8 - i ≡ 0 = omega arith in sym (s.is ∙ ap (λ (k : ℕ). spelled head (at + i) k v) n)
