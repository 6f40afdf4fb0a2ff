-- `live_insts` depends on points only; how large it gets. Assumes nothing.
use Rattle.std.specs.Prelude.{◌≡◌, refl, List, [], ◌∷◌, map, ℕ, ◌+◌, ◌-◌, ◌*◌, ◌≤◌}
use Rattle.std.proofs.Common.{ap, arith}
use Rattle.definition.specs.Types.{Segment}
use Rattle.definition.specs.LiveRange.{next_inst, touched, live_insts}
use Rattle.live_range.specs.declared.insts.LiveRangeSegment.{LiveRangeSegment}
use Rattle.live_range.specs.Ranges.{range_of, bare, new_insts, range_insts}

touched_ranges : (n : ℕ) (ss : List Segment) → touched n ss ≡ touched n (map bare (map range_of ss))
unfolding touched
touched_ranges n [] = refl
touched_ranges n (s ∷ ss) = ap (λ (k : ℕ). new_insts n (range_of s) + k) (touched_ranges (next_inst s.to) ss)

-- the segments' own count, from their points
pub live_insts_ranges : (ss : List Segment) → live_insts ss ≡ range_insts (map range_of ss)
unfolding live_insts range_insts
live_insts_ranges ss = touched_ranges 0 ss

-- sorted, from q on and up to the Boundary behind instruction m - 1
abbrev pub RangesFit : ℕ → ℕ → List LiveRangeSegment → Type 0
RangesFit q m [] = Unit
RangesFit q m (r ∷ rs) = (q ≤ r.«from».0) × (r.«from».0 ≤ r.to.0) × (r.to.0 ≤ 4 * m) × RangesFit r.to.0 m rs

touched_within : (n q m : ℕ) (rs : List LiveRangeSegment) → n ≤ m → n * 4 ≤ q + 3 → RangesFit q m rs → touched n (map bare rs) ≤ m - n
unfolding touched
touched_within n q m [] h l f = omega arith
touched_within n q m (r ∷ rs) h l f =
    omega (arith, touched_within (next_inst r.to) r.to.0 m rs (omega arith) (omega arith) f.3)

-- sorted ranges touch no more instructions than there are
pub ranges_within : (m : ℕ) (rs : List LiveRangeSegment) → RangesFit 0 m rs → range_insts rs ≤ m
unfolding range_insts
ranges_within m rs f = omega (arith, touched_within 0 0 m rs (omega arith) (omega arith) f)
