-- What `sorted` does to a list: the same members, by their keys, equal ones as they stood. `in_sorted`, `sorted_in`,
-- `sorted_before`; and lists by their rows. Assumes nothing.
use Prim.Native.Nat.{ℕ, zero, suc, ◌≤◌, ◌<◌}
use native.Mathlib.Omega.{arith}
use mathlib.Core.Path.{◌≡◌, refl, sym, subst}
use mathlib.Core.Logic.{◌⊎◌, inl, inr}
use mathlib.Core.Bool.{Bool, true, false, cond}
use mathlib.Core.List.Memᴰ.{head as here, tail as further, cases_cons as head-or-rest, not-nil as none_in}
use mathlib.Core.List.{List, [], ◌∷◌, Memᴰ as In}
use lib.Dec.{ltb}
use lib.ListN.{length, get_or}
use borrow.Author.Tests.{ltb-true, ltb-false}
use Rattle.definition.specs.CutMoves.{insert, sorted}

-- ---- a list by its rows

module _ {A : Type 0} where
  -- y stands in row k
  pub record RowOf (y d : A) (l : List A) : Type 0 where
    pub row : ℕ
    pub there : row < length l
    pub is : get_or l row d ≡ y

  pub at_member : (l : List A) (k : ℕ) (d : A) → k < length l → In (get_or l k d) l
  at_member [] k d h = absurd (omega arith)
  at_member (x ∷ l) zero d h = here refl
  at_member (x ∷ l) (suc k) d h = further (at_member l k d (omega arith))

  pub member_at : (y d : A) (l : List A) → In y l → RowOf y d l
  member_at y d [] m = absurd (none_in m)
  member_at y d (x ∷ l) m = go (head-or-rest m) (λ n. member_at y d l n)
    where
      go : (y ≡ x) ⊎ In y l → (In y l → RowOf y d l) → RowOf y d (x ∷ l)
      go (inl e) f = record { row = 0; there = omega arith; is = sym e }
      go (inr n) f = let r = f n in record { row = suc r.row; there = omega (arith, r.there); is = r.is }

  -- each stands in R to all behind it
  abbrev pub Pairs : (A → A → Type 0) → List A → Type 0
  Pairs R [] = Unit {0}
  Pairs R (x ∷ l) = ((y : A) → In y l → R x y) × Pairs R l

  pub pair_at : (R : A → A → Type 0) (l : List A) (d : A) → Pairs R l → (j k : ℕ) → j < k → k < length l
      → R (get_or l j d) (get_or l k d)
  pair_at R [] d p j k h u = absurd (omega arith)
  pair_at R (x ∷ l) d p j zero h u = absurd (omega arith)
  pair_at R (x ∷ l) d p zero (suc k) h u = p.0 (get_or l k d) (at_member l k d (omega arith))
  pair_at R (x ∷ l) d p (suc j) (suc k) h u = pair_at R l d p.1 j k (omega arith) (omega arith)

module _ {A : Type 0} (key : A → ℕ) where
  -- ---- the same members

  in_insert : (x : A) (l : List A) (y : A) → In y (insert key x l) → (y ≡ x) ⊎ In y l
  unfolding insert
  in_insert x [] y m = head-or-rest m
  in_insert x (z ∷ l) y m = go (ltb (key z) (key x)) m (λ n. in_insert x l y n)
    where
      deeper : (y ≡ x) ⊎ In y l → (y ≡ x) ⊎ In y (z ∷ l)
      deeper (inl e) = inl e
      deeper (inr n) = inr (further n)

      behind : (y ≡ z) ⊎ In y (insert key x l) → (In y (insert key x l) → (y ≡ x) ⊎ In y l) → (y ≡ x) ⊎ In y (z ∷ l)
      behind (inl e) f = inr (here e)
      behind (inr n) f = deeper (f n)

      go : (t : Bool) → In y (cond t (z ∷ insert key x l) (x ∷ z ∷ l)) → (In y (insert key x l) → (y ≡ x) ⊎ In y l)
          → (y ≡ x) ⊎ In y (z ∷ l)
      go true n f = behind (head-or-rest n) f
      go false n f = head-or-rest n

  insert_in : (x : A) (l : List A) (y : A) → (y ≡ x) ⊎ In y l → In y (insert key x l)
  unfolding insert
  insert_in x [] y m = elim m [ inl e ↦ here e | inr n ↦ further n ]
  insert_in x (z ∷ l) y m = go (ltb (key z) (key x)) m (λ n. insert_in x l y n)
    where
      go : (t : Bool) → (y ≡ x) ⊎ In y (z ∷ l) → ((y ≡ x) ⊎ In y l → In y (insert key x l))
          → In y (cond t (z ∷ insert key x l) (x ∷ z ∷ l))
      go true (inl e) f = further (f (inl e))
      go true (inr n) f = elim (head-or-rest n) [ inl e ↦ here e | inr o ↦ further (f (inr o)) ]
      go false (inl e) f = here e
      go false (inr n) f = further n

  pub in_sorted : (l : List A) (y : A) → In y (sorted key l) → In y l
  unfolding sorted
  in_sorted [] y m = m
  in_sorted (x ∷ l) y m = go (in_insert x (sorted key l) y m) (λ n. in_sorted l y n)
    where
      go : (y ≡ x) ⊎ In y (sorted key l) → (In y (sorted key l) → In y l) → In y (x ∷ l)
      go (inl e) f = here e
      go (inr n) f = further (f n)

  pub sorted_in : (l : List A) (y : A) → In y l → In y (sorted key l)
  unfolding sorted
  sorted_in [] y m = m
  sorted_in (x ∷ l) y m = insert_in x (sorted key l) y (go (head-or-rest m) (λ n. sorted_in l y n))
    where
      go : (y ≡ x) ⊎ In y l → (In y l → In y (sorted key l)) → (y ≡ x) ⊎ In y (sorted key l)
      go (inl e) f = inl e
      go (inr n) f = inr (f n)

  -- ---- in order

  module _ (num : A → ℕ) where
    -- x stands before y, by its key, of equal ones by its number; and the two have different numbers
    pub record Before (x y : A) : Type 0 where
      pub fewest : key x ≤ key y
      pub equal : key x ≡ key y → num x < num y
      pub other : num x ≡ num y → ⊥

    insert_before : (x : A) (l : List A) → ((y : A) → In y l → num x < num y) → Pairs Before l
        → Pairs Before (insert key x l)
    unfolding insert
    insert_before x [] b p = (λ y m. absurd (none_in m), tt)
    insert_before x (z ∷ l) b p = go (ltb (key z) (key x)) refl (insert_before x l (λ y m. b y (further m)) p.1)
      where
        first : num x < num z
        first = b z (here refl)

        after_z : key z < key x → (y : A) → (y ≡ x) ⊎ In y l → Before z y
        after_z h y (inl e) =
            subst (λ (w : A). Before z w) (sym e)
            (record { fewest = omega arith; equal = λ q. absurd (omega arith); other = λ q. omega (arith, first) })
        after_z h y (inr m) = p.0 y m

        after_x : key x ≤ key z → (y : A) → (y ≡ z) ⊎ In y l → Before x y
        after_x h y (inl e) =
            subst (λ (w : A). Before x w) (sym e)
            (record { fewest = h; equal = λ q. first; other = λ q. omega (arith, first) })
        after_x h y (inr m) =
            let q = b y (further m) in
            record { fewest = omega (arith, (p.0 y m).fewest); equal = λ r. q; other = λ r. omega arith }

        go : (t : Bool) → ltb (key z) (key x) ≡ t → Pairs Before (insert key x l)
            → Pairs Before (cond t (z ∷ insert key x l) (x ∷ z ∷ l))
        go true e r = (λ y m. after_z (ltb-true _ _ e) y (in_insert x l y m), r)
        go false e r = (λ y m. after_x (ltb-false _ _ e) y (head-or-rest m), p)

    -- from rising numbers
    pub sorted_before : (l : List A) → Pairs (λ x y. num x < num y) l → Pairs Before (sorted key l)
    unfolding sorted
    sorted_before [] p = tt
    sorted_before (x ∷ l) p = insert_before x (sorted key l) (λ y m. p.0 y (in_sorted l y m)) (sorted_before l p.1)
