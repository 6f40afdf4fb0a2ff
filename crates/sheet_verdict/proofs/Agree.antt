-- Two lists of numbers compared place by place, from the front. Assumes nothing.
use Prim.Native.Nat.{ℕ, ◌+◌, ◌<◌}
use native.Mathlib.Numerals.{add-one}
use mathlib.Core.Path.{◌≡◌, refl, sym, ◌∙◌}
use mathlib.Core.Bool.{false}
use mathlib.Core.List.{List}
use lib.ListN.{length, get_or, drop}
use lib.Seq.{drop-cons}
use borrow.Author.Tests.{eq-eqb, ne_eqb}
use Rattle.definition.specs.Text.{same}

-- xs and ys have n numbers each, and are the same if they are from place i on
pub record Agree (xs ys : List ℕ) (n i : ℕ) : Type 0 where
  pub long_x : length xs ≡ n
  pub long_y : length ys ≡ n
  pub is : same xs ys ≡ same (drop i xs) (drop i ys)

pub agree_start : (xs ys : List ℕ) (n : ℕ) → length xs ≡ n → length ys ≡ n → Agree xs ys n 0
agree_start xs ys n p q = record { long_x = p; long_y = q; is = refl }

module _ {xs ys : List ℕ} {n i : ℕ} (a : Agree xs ys n i) where
  -- x and y are the numbers at place i
  module _ (h : i < n) (x y : ℕ) (ex : x ≡ get_or xs i 0) (ey : y ≡ get_or ys i 0) where
    in_x : i < length xs
    in_x = rw a.long_x h

    in_y : i < length ys
    in_y = rw a.long_y h

    pub agree_next : x ≡ y → Agree xs ys n (i + 1)
    agree_next e = record {
      long_x = a.long_x;
      long_y = a.long_y;
      is = a.is ∙ rw (drop-cons xs i 0 in_x, drop-cons ys i 0 in_y, eq-eqb _ _ (sym ex ∙ e ∙ ey), add-one);
    }

    pub agree_stop : (x ≡ y → ⊥) → false ≡ same xs ys
    agree_stop e =
        sym (a.is ∙ rw (drop-cons xs i 0 in_x, drop-cons ys i 0 in_y, ne_eqb _ _ (λ z. e (ex ∙ z ∙ sym ey))))
