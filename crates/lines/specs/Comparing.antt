-- The comparison of a text with a part of a buffer. Assumes nothing.
use Rattle.std.specs.Prelude.{◌≡◌, refl, Bool, true, false, ◌&&◌, List, [], ◌∷◌, ◌++◌, ℕ, eqb, length, take, drop}
use Rattle.std.proofs.Common.{ap, arith, ne_eqb}
use lib.Pointwise.{pointwise}
use Rattle.definition.specs.Text.{same}

-- the comparison with a text and more, by the two parts
pub same_append : (text xs more : List ℕ)
    → same xs (text ++ more) ≡ pointwise eqb (take (length text) xs) text && same (drop (length text) xs) more
same_append [] xs more = refl
same_append (y ∷ ys) [] more = refl
same_append (y ∷ ys) (x ∷ xs) more = go (eqb x y) (same_append ys xs more)
  where
    go : (b : Bool) → same xs (ys ++ more) ≡ pointwise eqb (take (length ys) xs) ys && same (drop (length ys) xs) more
        → b && same xs (ys ++ more)
        ≡ (b && pointwise eqb (take (length ys) xs) ys) && same (drop (length ys) xs) more
    go true e = e
    go false e = refl

pub same_none : (xs : List ℕ) → eqb (length xs) 0 ≡ same xs []
same_none [] = refl
same_none (x ∷ xs) = ne_eqb (length (x ∷ xs)) 0 (λ e. omega (arith, e))

-- the comparison of slices
pub same_pointwise : (xs ys : List ℕ) → pointwise eqb xs ys ≡ same xs ys
same_pointwise [] [] = refl
same_pointwise [] (y ∷ ys) = refl
same_pointwise (x ∷ xs) [] = refl
same_pointwise (x ∷ xs) (y ∷ ys) = ap (λ (b : Bool). eqb x y && b) (same_pointwise xs ys)
