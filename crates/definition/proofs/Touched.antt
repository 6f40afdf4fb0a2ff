-- The instructions that segments touch, counted one by one: for sorted segments `live_insts` is that count
-- (`live_insts_counts`). Assumes nothing.
use mathlib.Core.Path.{◌≡◌, refl, sym, ap, ◌∙◌}
use Prim.Native.Nat.{ℕ, zero, suc, ◌+◌, ◌-◌, ◌*◌, ◌≤◌, ◌<◌, max, min}
use native.Mathlib.Omega.{arith}
use mathlib.Core.Bool.{Bool, true, false, ◌&&◌, ◌||◌}
use mathlib.Core.List.{List, [], ◌∷◌}
use lib.Dec.{leb, ltb}
use borrow.Author.Tests.{ltb-true, ltb-false, leb-true, leb-false, lt-ltb, le-ltb, le-leb}
use Rattle.definition.specs.Types.{Segment, point, val}
use Rattle.definition.specs.LiveRange.{inst_of, live_insts, next_inst, touched}
use Rattle.definition.specs.Build.{one}
use Rattle.definition.specs.Entry.{some_is}
use Rattle.definition.specs.Promised.{Follows}
use Rattle.definition.proofs.Places.{All}

-- ---- to touch an instruction

-- segment s holds a point of instruction i; its own points are those from `from` on, `to` excluded
abbrev pub Touches : ℕ → Segment → Type 0
Touches i s = (q : ℕ) × (s.«from».0 ≤ q) × (q < s.to.0) × (inst_of (point q) ≡ i)

-- the test for it: the points of s and those of i, 4i to 4i + 3, meet
abbrev pub touches : ℕ → Segment → Bool
touches i s = ltb (max s.«from».0 (4 * i)) (min s.to.0 (4 * i + 4))

pub touches_point : (i : ℕ) (s : Segment) → touches i s ≡ true → Touches i s
touches_point i s e =
    let h : max s.«from».0 (4 * i) < min s.to.0 (4 * i + 4) = ltb-true _ _ e in
    (max s.«from».0 (4 * i), omega arith, omega arith, omega arith)

pub point_touches : (i : ℕ) (s : Segment) → Touches i s → touches i s ≡ true
point_touches i s (q, a, b, e) = lt-ltb (max s.«from».0 (4 * i)) (min s.to.0 (4 * i + 4)) (omega arith)

-- what ends behind i and does not touch it begins behind it
starts_later : (i : ℕ) (s : Segment) → s.«from».0 < s.to.0 → i < next_inst s.to → touches i s ≡ false
    → 4 * i + 4 ≤ s.«from».0
starts_later i s w l e =
    let h : min s.to.0 (4 * i + 4) ≤ max s.«from».0 (4 * i) = ltb-false _ _ e in
    omega arith

-- how many of the instructions below n some segment touches: each is counted once
unfoldable pub touched_below : ℕ → List Segment → ℕ
unfolding some_is
touched_below zero ss = 0
touched_below (suc i) ss = one (some_is (touches i) ss) + touched_below i ss

-- ---- those from instruction n on

touched_from : ℕ → ℕ → List Segment → ℕ
unfolding some_is
touched_from n zero ss = 0
touched_from n (suc i) ss = one (leb n i && some_is (touches i) ss) + touched_from n i ss

from_zero : (k : ℕ) (ss : List Segment) → touched_from 0 k ss ≡ touched_below k ss
unfolding touched_from touched_below
from_zero zero ss = refl
from_zero (suc i) ss = rw (le-leb 0 i (omega arith)) (omega (arith, from_zero i ss))

from_none : (n k : ℕ) → touched_from n k [] ≡ 0
unfolding touched_from some_is
from_none n zero = refl
from_none n (suc i) = go (leb n i) (from_none n i)
  where
    go : (b : Bool) → touched_from n i [] ≡ 0 → one (b && false) + touched_from n i [] ≡ 0
    go true e = omega arith
    go false e = omega arith

-- no segment touches an instruction before all of them
none_before : (i q : ℕ) (ss : List Segment) → 4 * i + 4 ≤ q → Follows q ss → some_is (touches i) ss ≡ false
unfolding some_is
none_before i q [] l h = refl
none_before i q (s ∷ ss) l h =
    rw (le-ltb (max s.«from».0 (4 * i)) (min s.to.0 (4 * i + 4)) (omega (arith, h.0)))
    (none_before i s.to.0 ss (omega (arith, h.0, h.1)) h.2)

-- the first segment's own instructions from n on, and those of the others from its end on
module _ (n : ℕ) (s : Segment) (ss : List Segment) (l : 4 * n ≤ s.«from».0 + 3) (w : s.«from».0 < s.to.0)
    (h : Follows s.to.0 ss) where
  abbrev end : ℕ
  end = next_inst s.to

  abbrev begin : ℕ
  begin = max n (inst_of s.«from»)

  from_first : (k : ℕ) → touched_from n k (s ∷ ss) ≡ (min k end - begin) + touched_from end k ss
  unfolding touched_from some_is
  from_first zero = omega arith
  from_first (suc i) = go (leb n i) (touches i s) (leb end i) refl refl refl (from_first i)
    where
      go : (a b c : Bool) → leb n i ≡ a → touches i s ≡ b → leb end i ≡ c
          → touched_from n i (s ∷ ss) ≡ (min i end - begin) + touched_from end i ss
          → one (a && (b || some_is (touches i) ss)) + touched_from n i (s ∷ ss)
          ≡ (min (suc i) end - begin) + (one (c && some_is (touches i) ss) + touched_from end i ss)
      go false b true d e f ih = absurd (omega (arith, leb-false n i d, leb-true end i f))
      go false b false d e f ih = omega (arith, leb-false n i d)
      go true true true d e f ih = let (q, u, v, t) = touches_point i s e in absurd (omega (arith, leb-true end i f))
      go true true false d e f ih = let (q, u, v, t) = touches_point i s e in omega (arith, leb-true n i d)
      go true false true d e f ih = omega (arith, leb-true end i f)
      go true false false d e f ih =
          let g : 4 * i + 4 ≤ s.«from».0 = starts_later i s w (leb-false end i f) e in
          omega (arith, ap one (none_before i s.to.0 ss (omega arith) h))

touched_from_lem : (k q n : ℕ) (ss : List Segment) → 4 * n ≤ q + 3 → Follows q ss → All (λ s. s.to.0 ≤ 4 * k) ss
    → touched n ss ≡ touched_from n k ss
unfolding touched
touched_from_lem k q n [] l h a = sym (from_none n k)
touched_from_lem k q n (s ∷ ss) l h a =
    omega (
      arith,
      h.0,
      h.1,
      a.0,
      touched_from_lem k s.to.0 (next_inst s.to) ss (omega arith) h.2 a.1,
      from_first n s ss (omega (arith, h.0)) h.1 h.2 k,
    )

-- "`live_insts` counts the different instructions that a sorted list touches": `Follows` is sorted, with none empty;
-- n is any number of instructions that no segment goes past, as entry rule 6 has it
pub live_insts_counts : (n : ℕ) (ss : List Segment) → Follows 0 ss → All (λ s. s.to.0 ≤ 4 * n) ss
    → live_insts ss ≡ touched_below n ss
unfolding live_insts
live_insts_counts n ss h a = touched_from_lem n 0 0 ss (omega arith) h a ∙ from_zero n ss

-- so they are n at most
at_most_one : (b : Bool) → one b ≤ 1
at_most_one true = omega arith
at_most_one false = omega arith

below_most : (n : ℕ) (ss : List Segment) → touched_below n ss ≤ n
unfolding touched_below
below_most zero ss = omega arith
below_most (suc i) ss = omega (arith, at_most_one (some_is (touches i) ss), below_most i ss)

pub live_insts_most : (n : ℕ) (ss : List Segment) → Follows 0 ss → All (λ s. s.to.0 ≤ 4 * n) ss → live_insts ss ≤ n
live_insts_most n ss h a = omega (arith, live_insts_counts n ss h a, below_most n ss)

-- ---- "[2,4),[4,6) gives 2; [0,1),[1,2) gives 1."

abbrev two : ℕ → ℕ → ℕ → ℕ → List Segment
two a b c d = bare a b ∷ bare c d ∷ []
  where
    bare : ℕ → ℕ → Segment
    bare from' to' = record {
      value = val 0;
      «from» = point from';
      to = point to';
      flags = record { livein = false; liveout = false; fixedhint = false; fixeddef = false };
      uses = [];
    }

two_touched : (live_insts (two 2 4 4 6) ≡ 2) × (touched_below 2 (two 2 4 4 6) ≡ 2)
unfolding live_insts touched_below
two_touched = (refl, refl)

one_touched : (live_insts (two 0 1 1 2) ≡ 1) × (touched_below 1 (two 0 1 1 2) ≡ 1)
unfolding live_insts touched_below
one_touched = (refl, refl)
