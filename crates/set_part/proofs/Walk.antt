-- What a walk up a table finds: the first row whose number is above x, else the last one. Assumes nothing.
use mathlib.Core.Path.{◌≡◌, refl}
use mathlib.Core.Bool.{Bool, true, false}
use Prim.Native.Nat.{ℕ, zero, suc, ◌+◌, ◌-◌, ◌≤◌, ◌<◌}
use native.Mathlib.Omega.{arith}
use lib.Dec.{ltb}
use borrow.Author.Tests.{ltb-true, ltb-false}
use borrow.Author.Count.{below_more}

-- no row from a up to i is above x
pub record Passed (f : ℕ → ℕ) (x a i : ℕ) : Type 0 where
  pub below : (j : ℕ) → j < i → a ≤ j → f j ≤ x

-- k is the first row from a on whose number is above x, or it is `last`
pub record First (f : ℕ → ℕ) (x a last k : ℕ) : Type 0 where
  pub behind : a ≤ k
  pub within : k ≤ last
  pub passed : Passed f x a k
  pub above : k < last → x < f k

-- one row is
pub one_first : (f : ℕ → ℕ) (x a last k n : ℕ) → First f x a last k → First f x a last n → k ≡ n
one_first f x a last k n p q = go (ltb k n) refl (ltb n k) refl
  where
    go : (s : Bool) → ltb k n ≡ s → (t : Bool) → ltb n k ≡ t → k ≡ n
    go true e t u =
        let h = ltb-true k n e in
        absurd (omega (arith, q.passed.below k h p.behind, p.above (omega (arith, h, q.within))))
    go false e true u =
        let h = ltb-true n k u in
        absurd (omega (arith, p.passed.below n h q.behind, q.above (omega (arith, h, p.within))))
    go false e false u = omega (arith, ltb-false k n e, ltb-false n k u)

-- ---- the loop

pub walk_start : {f : ℕ → ℕ} {x a : ℕ} → Passed f x a a
walk_start = record { below = λ j l h. absurd (omega arith) }

pub walk_next : {f : ℕ → ℕ} {x a i : ℕ} → Passed f x a i → f i ≤ x → Passed f x a (i + 1)
walk_next {f} {x} {a} {i} p h = record { below = below_more (λ j. a ≤ j → f j ≤ x) i p.below (λ _. h) }

pub walk_stop : {f : ℕ → ℕ} {x a last i : ℕ} → Passed f x a i → a ≤ i → i ≤ last → x < f i → First f x a last i
walk_stop p l m h = record { behind = l; within = m; passed = p; above = λ _. h }

pub walk_end : {f : ℕ → ℕ} {x a last i : ℕ} → Passed f x a i → a ≤ i → i ≤ last → last ≤ i → First f x a last last
walk_end {f} {x} {a} {last} {i} p l m h =
    let e : i ≡ last = omega arith in
    let r : First f x a last i = record { behind = l; within = m; passed = p; above = λ n. absurd (omega arith) } in
    rw e at r

-- ---- a definition by recursion: g is at row i, or where it is from the next row on

module _ (f : ℕ → ℕ) (x : ℕ) (g : ℕ → ℕ → ℕ) (none : (i : ℕ) → g i 0 ≡ i) (turn : (i m : ℕ) → g i (suc m) ≡ elim (ltb x (f i)) [ true ↦ i | false ↦ g (i + 1) m ]) where
  walk_from : (a last m i : ℕ) → i + m ≡ last → a ≤ i → Passed f x a i → First f x a last (g i m)
  walk_from a last zero i e l p = rw (none i) (record { behind = l; within = omega arith; passed = p; above = λ h. absurd (omega arith) })
  walk_from a last (suc m) i e l p = rw (turn i m) (go (ltb x (f i)) refl (λ h. walk_from a last m (i + 1) (omega arith) (omega arith) (walk_next p h)))
    where
      go : (t : Bool) → ltb x (f i) ≡ t → (f i ≤ x → First f x a last (g (i + 1) m)) → First f x a last (elim t [ true ↦ i | false ↦ g (i + 1) m ])
      go true u on = walk_stop p l (omega arith) (ltb-true x (f i) u)
      go false u on = on (ltb-false x (f i) u)

  pub walk_first : (a last : ℕ) → a ≤ last → First f x a last (g a (last - a))
  walk_first a last h = walk_from a last (last - a) a (omega arith) (omega arith) walk_start
