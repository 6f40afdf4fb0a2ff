-- The walks over the rows of a table of starts: one turn of each loop, and what the walk finds. Assumes nothing.
use Prim.Native.Nat.{ℕ, zero, suc, ◌+◌, ◌-◌, ◌≤◌, ◌<◌}
use native.Mathlib.Omega.{arith}
use mathlib.Core.Path.{◌≡◌, sym, ap, ◌∙◌, subst}
use mathlib.Core.Logic.{◌⊎◌, inl, inr}
use lib.Dec.{ltb}
use Rattle.std.proofs.lemmas.Bool.{cases_lt}
use borrow.Author.Tests.{ltb-true, ltb-false}
use Rattle.definition.specs.declared.Side.{Side}
use Rattle.definition.specs.declared.Side.TheVariants.{Early, Late}
use Rattle.split_placement.specs.Places.{least, ahead}
use Rattle.split_placement.proofs.Wins.{Costs, Wins, Picked, picked, wins_itself, wins_through}

-- ---- the one ahead is wanted

-- x has no more than y, and less where y is ahead
abbrev pub Under : (ℕ → ℕ) → Side → ℕ → ℕ → Type 0
Under f side x y = Wins (λ i j. f i ≤ f j) (λ i j. f i < f j) side x y

numbers : (f : ℕ → ℕ) → Costs (λ i j. f i ≤ f j) (λ i j. f i < f j)
numbers f =
    record {
      itself = λ x. omega arith;
      weaker = λ x y h. omega arith;
      through = λ x y z h k. omega arith;
      less_then = λ x y z h k. omega arith;
      then_less = λ x y z h k. omega arith;
    }

ahead_picked : (side : Side) (f : ℕ → ℕ) (c d : ℕ) → c ≤ d
    → Picked (λ i j. f i ≤ f j) (λ i j. f i < f j) side c d (ahead side f c d)
ahead_picked Early f c d h =
    picked (numbers f) Early (ltb (f d) (f c)) c d h (ltb-true (f d) (f c), ltb-false (f d) (f c))
ahead_picked Late f c d h =
    picked (numbers f) Late (ltb (f c) (f d)) c d h (ltb-true (f c) (f d), ltb-false (f c) (f d))

-- ---- the loop

pub record SoFar (side : Side) (f : ℕ → ℕ) (from to best j : ℕ) : Type 0 where
  pub up : j ≤ from + (to - from)
  pub low : best ≤ j
  pub is : least side f from from (to - from) ≡ least side f best j (to - j)

module _ {side : Side} {f : ℕ → ℕ} {from to best j : ℕ} (s : SoFar side f from to best j) where
  pub walk_next : (b : ℕ) → j < to → b ≡ ahead side f best (j + 1) → SoFar side f from to b (j + 1)
  unfolding least
  walk_next b h e =
      let k : to - j ≡ suc (to - (j + 1)) = omega arith in
      record {
        up = omega (arith, s.up);
        low = below (ahead_picked side f best (j + 1) (omega (arith, s.low))).one;
        is =
            s.is ∙ ap (least side f best j) k
            ∙ ap (λ (c : ℕ). least side f c (j + 1) (to - (j + 1))) (sym e);
      }
    where
      below : (ahead side f best (j + 1) ≡ best) ⊎ (ahead side f best (j + 1) ≡ j + 1) → b ≤ j + 1
      below (inl k) = omega (arith, e, s.low)
      below (inr k) = omega (arith, e)

  pub walk_end : to ≤ j → best ≡ least side f from from (to - from)
  unfolding least
  walk_end h =
      let k : to - j ≡ 0 = omega arith in
      sym (s.is ∙ ap (least side f best j) k)

-- ---- what a walk from `lo` to `hi` finds

pub record LeastOf (side : Side) (f : ℕ → ℕ) (lo hi best : ℕ) : Type 0 where
  pub low : lo ≤ best
  pub high : best ≤ hi
  pub wins : (j : ℕ) → lo ≤ j → j ≤ hi → Under f side best j

module _ (side : Side) (f : ℕ → ℕ) (lo : ℕ) where
  least_more : (j c : ℕ) → LeastOf side f lo j c → LeastOf side f lo (j + 1) (ahead side f c (j + 1))
  least_more j c s = record { low = (within k.one).0; high = (within k.one).1; wins = over }
    where
      k : Picked (λ i j. f i ≤ f j) (λ i j. f i < f j) side c (j + 1) (ahead side f c (j + 1))
      k = ahead_picked side f c (j + 1) (omega (arith, s.high))

      d : ℕ
      d = ahead side f c (j + 1)

      within : (d ≡ c) ⊎ (d ≡ j + 1) → (lo ≤ d) × (d ≤ j + 1)
      within (inl e) = (omega (arith, e, s.low), omega (arith, e, s.high))
      within (inr e) = (omega (arith, e, s.low, s.high), omega (arith, e))

      over : (i : ℕ) → lo ≤ i → i ≤ j + 1 → Under f side d i
      over i g h = go (cases_lt j i)
        where
          go : (j < i) ⊎ (i ≤ j) → Under f side d i
          go (inl l) = let e : j + 1 ≡ i = omega arith in subst (Under f side d) e k.over_second
          go (inr l) = wins_through (numbers f) side d c i k.over_first (s.wins i g l)

  least_from : (c j k : ℕ) → LeastOf side f lo j c → LeastOf side f lo (j + k) (least side f c j k)
  unfolding least
  least_from c j zero s = let e : j + 0 ≡ j = omega arith in subst (λ (n : ℕ). LeastOf side f lo n c) (sym e) s
  least_from c j (suc k) s =
      let d = ahead side f c (j + 1) in
      let e : j + suc k ≡ j + 1 + k = omega arith in
      subst (λ (n : ℕ). LeastOf side f lo n (least side f d (j + 1) k)) (sym e)
      (least_from d (j + 1) k (least_more j c s))

  pub least_of : (hi : ℕ) → lo ≤ hi → LeastOf side f lo hi (least side f lo lo (hi - lo))
  least_of hi h =
      let e : lo + (hi - lo) ≡ hi = omega arith in
      subst (λ (n : ℕ). LeastOf side f lo n (least side f lo lo (hi - lo))) e
      (least_from lo lo (hi - lo) (record { low = omega arith; high = omega arith; wins = own }))
    where
      own : (j : ℕ) → lo ≤ j → j ≤ lo → Under f side lo j
      own j g l = let e : lo ≡ j = omega arith in subst (Under f side lo) e (wins_itself (numbers f) side lo)
