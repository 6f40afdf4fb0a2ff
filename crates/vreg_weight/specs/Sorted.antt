-- Sorted pieces touch at least one instruction and no more than there are. Assumes nothing.
use Rattle.std.specs.Prelude.{ℕ, ◌-◌, ◌*◌, ◌≤◌, ◌<◌, ◌≡◌, refl, Bool, true, false, List, [], ◌∷◌, map, leb, ltb, length}
use Rattle.std.proofs.Math.Option.{none}
use Rattle.std.proofs.Common.{arith, ltb-true, leb-false}
use Rattle.definition.specs.declared.Hint.{Hint}
use Rattle.definition.specs.declared.Inst.{Inst}
use Rattle.definition.specs.Types.{Segment, Job}
use Rattle.definition.specs.Cuts.{left_cut, left_of, right_cut, right_of}
use Rattle.definition.specs.Build.{turn_at, runs, same_set}
use Rattle.definition.specs.Entry.{insts, entry}
use Rattle.definition.specs.LiveRange.{touched, live_insts}
use Rattle.definition.proofs.Fits.{SegsFit}
use Rattle.definition.proofs.Entries.{accepted_ends, accepted_fit}
use Rattle.definition.proofs.Places.{All}
use Rattle.definition.proofs.Runs.{runs_all}
use Rattle.live_range.specs.Ranges.{range_of}
use Rattle.live_range.specs.Laws.{RangesFit, ranges_within, live_insts_ranges}
use Rattle.virt_regs.specs.Each.{Each}

-- from point q on: none empty, sorted, and none past the Boundary behind instruction m - 1
unfoldable pub Sorted : ℕ → ℕ → List Segment → Type 0
Sorted q m [] = Unit {0}
Sorted q m (s ∷ ss) = (q ≤ s.«from».0) × (s.«from».0 < s.to.0) × (s.to.0 ≤ 4 * m) × Sorted s.to.0 m ss

pub fit_sorted : (q m : ℕ) (ss : List Segment) → SegsFit q ss → Each (λ s. s.to.0 ≤ 4 * m) ss → Sorted q m ss
unfolding Sorted Each
fit_sorted q m [] f h = tt
fit_sorted q m (s ∷ ss) f h = (f.0, f.1, h.0, fit_sorted s.to.0 m ss f.3 h.1)

pub sorted_later : (q r m : ℕ) (ss : List Segment) → r ≤ q → Sorted q m ss → Sorted r m ss
unfolding Sorted
sorted_later q r m [] l f = tt
sorted_later q r m (s ∷ ss) l f = (omega (arith, f.0), f.1, f.2, f.3)

sorted_ranges : (q m : ℕ) (ss : List Segment) → Sorted q m ss → RangesFit q m (map range_of ss)
unfolding Sorted
sorted_ranges q m [] f = tt
sorted_ranges q m (s ∷ ss) f = (f.0, omega (arith, f.1), f.2, sorted_ranges s.to.0 m ss f.3)

pub insts_most : (m : ℕ) (ss : List Segment) → Sorted 0 m ss → live_insts ss ≤ m
insts_most m ss f = omega (arith, live_insts_ranges ss, ranges_within m (map range_of ss) (sorted_ranges 0 m ss f))

pub insts_least : (m : ℕ) (s : Segment) (ss : List Segment) → Sorted 0 m (s ∷ ss) → 1 ≤ live_insts (s ∷ ss)
unfolding Sorted live_insts touched
insts_least m s ss f = omega (arith, f.1)

pub sorted_more : (q m n : ℕ) (ss : List Segment) → m ≤ n → Sorted q m ss → Sorted q n ss
unfolding Sorted
sorted_more q m n [] l f = tt
sorted_more q m n (s ∷ ss) l f = (f.0, f.1, omega (arith, f.2), sorted_more s.to.0 m n ss l f.3)

-- ---- turns and cuts keep it

pub sorted_turn : (k q m : ℕ) (ss : List Segment) → Sorted q m ss → Sorted q m (turn_at k ss)
unfolding turn_at Sorted
sorted_turn k q m [] f = tt
sorted_turn k q m (s ∷ ss) f = go (ltb k (length s.uses)) refl (sorted_turn (k - length s.uses) s.to.0 m ss f.3)
  where
    go : (b : Bool) → ltb k (length s.uses) ≡ b → Sorted s.to.0 m (turn_at (k - length s.uses) ss) → Sorted q m (turn_at k (s ∷ ss))
    go true e ih = rw (e, turn_at) (f.0, f.1, f.2, f.3)
    go false e ih = rw (e, turn_at) (f.0, f.1, f.2, ih)

pub sorted_left : (hs : List Hint) (p : Inst) (q m : ℕ) (ss : List Segment) → Sorted q m ss → Sorted q m (left_cut hs p ss)
unfolding left_cut left_of Sorted
sorted_left hs p q m [] f = tt
sorted_left hs p q m (s ∷ ss) f = go (leb s.to.0 (4 * p.0)) (ltb s.«from».0 (4 * p.0)) refl refl (sorted_left hs p s.to.0 m ss f.3)
  where
    go : (a b : Bool) → leb s.to.0 (4 * p.0) ≡ a → ltb s.«from».0 (4 * p.0) ≡ b → Sorted s.to.0 m (left_cut hs p ss) → Sorted q m (left_cut hs p (s ∷ ss))
    go true b d e ih = rw (d, left_cut) (f.0, f.1, f.2, ih)
    go false true d e ih =
        let x : 4 * p.0 < s.to.0 = leb-false s.to.0 (4 * p.0) d in
        let y : s.«from».0 < 4 * p.0 = ltb-true s.«from».0 (4 * p.0) e in
        rw (d, e, left_cut) (f.0, y, omega (arith, f.2), tt)
    go false false d e ih = rw (d, e, left_cut) tt

pub sorted_right : (hs : List Hint) (p : Inst) (q m : ℕ) (ss : List Segment) → Sorted q m ss → Sorted q m (right_cut hs p ss)
unfolding right_cut right_of Sorted
sorted_right hs p q m [] f = tt
sorted_right hs p q m (s ∷ ss) f =
    go (leb s.to.0 (4 * p.0)) (ltb s.«from».0 (4 * p.0)) refl refl
    (sorted_later s.to.0 q m (right_cut hs p ss) (omega (arith, f.0, f.1)) (sorted_right hs p s.to.0 m ss f.3))
  where
    go : (a b : Bool) → leb s.to.0 (4 * p.0) ≡ a → ltb s.«from».0 (4 * p.0) ≡ b → Sorted q m (right_cut hs p ss) → Sorted q m (right_cut hs p (s ∷ ss))
    go true b d e ih = rw (d, right_cut) ih
    go false true d e ih =
        let x : 4 * p.0 < s.to.0 = leb-false s.to.0 (4 * p.0) d in
        let y : s.«from».0 < 4 * p.0 = ltb-true s.«from».0 (4 * p.0) e in
        rw (d, e, right_cut) (omega (arith, f.0), x, f.2, f.3)
    go false false d e ih = rw (d, e, right_cut) (f.0, f.1, f.2, f.3)

-- ---- the sets of an accepted job

all_ends : (m : ℕ) (ss : List Segment) → All (λ s. s.to.0 ≤ 4 * m) ss → Each (λ s. s.to.0 ≤ 4 * m) ss
unfolding Each
all_ends m [] h = tt
all_ends m (s ∷ ss) h = (h.0, all_ends m ss h.1)

both_sorted : (m : ℕ) (rs : List (List Segment)) → All (SegsFit 0) rs → All (All (λ s. s.to.0 ≤ 4 * m)) rs → All (Sorted 0 m) rs
both_sorted m [] f h = tt
both_sorted m (r ∷ rs) f h = (fit_sorted 0 m r f.0 (all_ends m r h.0), both_sorted m rs f.1 h.1)

pub accepted_sorted : (J : Job) → entry J ≡ none → All (Sorted 0 (insts J)) (runs (same_set J) J.segments)
accepted_sorted J e =
    both_sorted (insts J) (runs (same_set J) J.segments) (accepted_fit J e)
    (runs_all (λ s. s.to.0 ≤ 4 * insts J) (same_set J) J.segments (accepted_ends J e))
