-- What is so for each entry of a list. Assumes nothing.
use mathlib.Core.List.{List, [], ◌∷◌, ◌++◌}
use Prim.Native.Nat.{ℕ, zero, suc, ◌<◌}
use Rattle.std.proofs.Common.{arith}
use Rattle.std.specs.Prelude.{length, get_or, set}

unfoldable pub Each : {A : Type 0} → (A → Type 0) → List A → Type 0
Each P [] = Unit {0}
Each P (a ∷ l) = P a × Each P l

module _ {A : Type 0} (P : A → Type 0) where
  pub each_none : Each P []
  unfolding Each
  each_none = tt

  pub each_append : (l : List A) (r : List A) → Each P l → Each P r → Each P (l ++ r)
  unfolding Each
  each_append [] r p q = q
  each_append (a ∷ l) r p q = (p.0, each_append l r p.1 q)

  pub each_front : (l : List A) (r : List A) → Each P (l ++ r) → Each P l
  unfolding Each
  each_front [] r p = tt
  each_front (a ∷ l) r p = (p.0, each_front l r p.1)

  pub each_back : (l : List A) (r : List A) → Each P (l ++ r) → Each P r
  unfolding Each
  each_back [] r p = p
  each_back (a ∷ l) r p = each_back l r p.1

  pub each_one : (a : A) → P a → Each P (a ∷ [])
  unfolding Each
  each_one a p = (p, tt)

  pub each_get : (l : List A) (i : ℕ) (d : A) → Each P l → i < length l → P (get_or l i d)
  unfolding Each
  each_get [] i d p h = absurd (omega arith)
  each_get (a ∷ l) zero d p h = p.0
  each_get (a ∷ l) (suc i) d p h = each_get l i d p.1 (omega arith)

  pub each_set : (l : List A) (i : ℕ) (a : A) → Each P l → P a → Each P (set l i a)
  unfolding Each
  each_set [] i a p q = tt
  each_set (b ∷ l) zero a p q = (q, p.1)
  each_set (b ∷ l) (suc i) a p q = (p.0, each_set l i a p.1 q)

pub each_weaker : {A : Type 0} (P Q : A → Type 0) → ((a : A) → P a → Q a) → (l : List A) → Each P l → Each Q l
unfolding Each
each_weaker P Q f [] p = tt
each_weaker P Q f (a ∷ l) p = (f a p.0, each_weaker P Q f l p.1)
