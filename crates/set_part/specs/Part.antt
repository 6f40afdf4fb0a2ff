-- The working part of a value set and the segments that it stands for. Assumes nothing.
use Rattle.std.specs.Prelude.{ℕ, ◌+◌, ◌-◌, ◌*◌, ◌≤◌, ◌<◌, cond, List, eqb, ltb, get_or}
use Rattle.words.specs.Tab.{tab}
use Rattle.definition.specs.declared.Use.{Use}
use Rattle.definition.specs.Types.{Segment}
use Rattle.definition.specs.Build.{turned_use}
use Rattle.uses.specs.Rows.{use_row}
use Rattle.job.specs.declared.Layout.{Layout}
use Rattle.job.specs.Layout.{seg_at, next_use}
use Rattle.set_part.specs.declared.SetPart.{SetPart}
use Rattle.set_part.specs.declared.PartSeg.{PartSeg}

-- the use number at which the uses of segment i begin; behind the last segment, the end
unfoldable pub use_bound : List ℕ → Layout → SetPart → ℕ → ℕ
unfolding seg_at
use_bound W lay sp i = cond (eqb i sp.seg) sp.first (cond (ltb sp.last i) sp.end (seg_at W lay i).first)

-- segment i of the part
unfoldable pub part_row : List ℕ → Layout → SetPart → ℕ → PartSeg
unfolding seg_at use_bound
part_row W lay sp i = record {
  value = (seg_at W lay i).value;
  «from» = cond (eqb i sp.seg) sp.«from» (seg_at W lay i).«from»;
  to = cond (eqb i sp.last) sp.to (seg_at W lay i).to;
  flags = cond (eqb i sp.seg) sp.flags (cond (eqb i sp.last) sp.tail (seg_at W lay i).flags);
  first = use_bound W lay sp i;
  end = use_bound W lay sp (i + 1);
}

-- A part is well formed: its segments are segments of the job, and the numbers of its uses do not fall and lie within the job's.
pub record PartOk (W : List ℕ) (lay : Layout) (sp : SetPart) : Type 0 where
  pub order : sp.seg ≤ sp.last
  pub within : sp.last < lay.segments.n
  pub rise : (i : ℕ) → sp.seg ≤ i → i ≤ sp.last → use_bound W lay sp i ≤ use_bound W lay sp (i + 1)
  pub fits : sp.end ≤ lay.uses.n

-- the counts do not fall, and none passes the number of uses
pub record CountsRise (W : List ℕ) (lay : Layout) : Type 0 where
  pub rise : (i : ℕ) → i < lay.segments.n → (seg_at W lay i).first ≤ next_use W lay i
  pub within : (i : ℕ) → i < lay.segments.n → next_use W lay i ≤ lay.uses.n

-- Use number n of the job: a conflict if its mark, word `marks + n` of K, is not 0.
unfoldable pub marked_use : List ℕ → ℕ → List ℕ → Layout → ℕ → Use
unfolding use_row
marked_use K marks W lay n =
    cond (eqb (get_or K (marks + n) 0) 0) (use_row W (lay.uses.at + n * 6)) (turned_use (use_row W (lay.uses.at + n * 6)))

-- a row as a segment, by a function that gives the uses
unfoldable pub seg_by : (ℕ → Use) → PartSeg → Segment
seg_by f r = record { value = r.value; «from» = r.«from»; to = r.to; flags = r.flags; uses = tab f r.first (r.end - r.first) }

-- the segments of a part
unfoldable pub part_segs : List ℕ → ℕ → List ℕ → Layout → SetPart → List Segment
unfolding marked_use seg_by part_row
part_segs K marks W lay sp = tab (λ i. seg_by (marked_use K marks W lay) (part_row W lay sp i)) sp.seg (sp.last + 1 - sp.seg)

-- segments a to b - 1
unfoldable pub whole_part : List ℕ → Layout → ℕ → ℕ → SetPart
unfolding seg_at next_use
whole_part W lay a b = record {
  seg = a;
  «from» = (seg_at W lay a).«from»;
  flags = (seg_at W lay a).flags;
  first = (seg_at W lay a).first;
  last = b - 1;
  to = (seg_at W lay (b - 1)).to;
  tail = (seg_at W lay (b - 1)).flags;
  end = next_use W lay (b - 1);
}
