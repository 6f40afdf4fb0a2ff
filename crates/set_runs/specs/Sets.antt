-- A job's segments from one number on. Assumes nothing.
use Rattle.std.specs.Prelude.{◌≡◌, refl, List, ◌∷◌, ℕ, ◌+◌, ◌-◌, ◌<◌}
use Rattle.std.proofs.Common.{ap, arith}
use Rattle.words.specs.Tab.{tab, tab_more}
use Rattle.definition.specs.Types.{Segment}
use Rattle.uses.specs.Rows.{use_row}
use Rattle.job.specs.declared.Layout.{Layout}
use Rattle.job.specs.Layout.{seg_at, segment_of}
use Rattle.job.specs.Job.{job_by, job_of}

-- the job's segments a to b - 1
unfoldable pub segs_from : List ℕ → Layout → ℕ → ℕ → List Segment
segs_from W lay a b = tab (segment_of use_row W lay) a (b - a)

-- all of them
pub all_segs : (W : List ℕ) (lay : Layout) → segs_from W lay 0 lay.segments.n ≡ (job_of W lay).segments
unfolding segs_from job_of job_by
all_segs W lay =
    let e : lay.segments.n - 0 ≡ lay.segments.n = omega arith in
    ap (λ (k : ℕ). tab (segment_of use_row W lay) 0 k) e

-- the first of them, and the rest
pub first_seg : (W : List ℕ) (lay : Layout) (a b : ℕ) → a < b → segs_from W lay a b ≡ segment_of use_row W lay a ∷ segs_from W lay (a + 1) b
unfolding segs_from
first_seg W lay a b l = tab_more (segment_of use_row W lay) a b l

-- a segment's value is its row's
pub seg_value : (W : List ℕ) (lay : Layout) (i : ℕ) → (segment_of use_row W lay i).value ≡ (seg_at W lay i).value
unfolding segment_of
seg_value W lay i = refl
