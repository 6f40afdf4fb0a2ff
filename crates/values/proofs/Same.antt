-- Two lists of sets compared. Assumes nothing.
use Prim.Native.Nat.{ℕ}
use mathlib.Core.List.{List, [], ◌∷◌}
use mathlib.Core.Bool.{Bool, true, ◌&&◌}
use mathlib.Core.Path.{◌≡◌, refl, ap₂}
use native.Mathlib.Omega.{arith}
use lib.Dec.{eqb}
use lib.Pointwise.{pointwise}
use borrow.Author.Tests.{eq-eqb, eqb-true}
use Rattle.definition.specs.declared.ValueSet.{ValueSet}
use Rattle.definition.specs.Types.{vset}
use Rattle.definition.specs.Admit.{same_sets}
use Rattle.definition.proofs.Entries.{and_both}

-- lists compared pair by pair, by a test that is equality of the sets' numbers
pub same_pairs : (E : ValueSet → ValueSet → Bool) → ((x y : ValueSet) → E x y ≡ eqb x.0 y.0) → (a b : List ValueSet) → pointwise E a b ≡ same_sets a b
same_pairs E e [] [] = refl
same_pairs E e [] (y ∷ ys) = refl
same_pairs E e (x ∷ xs) [] = refl
same_pairs E e (x ∷ xs) (y ∷ ys) = ap₂ (λ p q. p && q) (e x y) (same_pairs E e xs ys)

-- the test is equality of the lists
pub same_equal : (a b : List ValueSet) → same_sets a b ≡ true → a ≡ b
same_equal [] [] e = refl
same_equal [] (y ∷ ys) e = let z : ◌≡◌ {A = ℕ} 0 1 = cc in let no : ⊥ = omega arith in absurd no
same_equal (x ∷ xs) [] e = let z : ◌≡◌ {A = ℕ} 0 1 = cc in let no : ⊥ = omega arith in absurd no
same_equal (x ∷ xs) (y ∷ ys) e =
    let p : eqb x.0 y.0 && same_sets xs ys ≡ true = e in
    let q = and_both _ _ p in
    ap₂ (λ z zs. vset z ∷ zs) (eqb-true _ _ q.0) (same_equal xs ys q.1)

pub equal_same : (a : List ValueSet) → same_sets a a ≡ true
equal_same [] = refl
equal_same (x ∷ xs) = rw (eq-eqb x.0 x.0 refl, equal_same xs)
