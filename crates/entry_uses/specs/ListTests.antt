-- What test 7 reads of a segment, and what test 1 says of the use counts. Assumes nothing.
use Rattle.std.specs.Prelude.{ℕ, ◌≤◌, ◌<◌, ◌≡◌, Bool, List, [], leb}
use Rattle.definition.specs.declared.Use.{Use}
use Rattle.definition.specs.Types.{Segment}
use Rattle.job.specs.declared.Layout.{Layout}
use Rattle.job.specs.declared.SegRow.{SegRow}
use Rattle.job.specs.Layout.{seg_at, next_use}

-- the segment of a row, without uses: a use is tested against its value and points
unfoldable pub seg_of : SegRow → Segment
seg_of s = record { value = s.value; «from» = s.«from»; to = s.to; flags = s.flags; uses = [] }

-- "use falling in position"
unfoldable pub not_falling : Use → Use → Bool
not_falling u w = leb u.pos.0 w.pos.0

-- the first segment's count is 0, and the counts do not fall nor pass the number of uses
pub record Rising (W : List ℕ) (lay : Layout) : Type 0 where
  pub first : 0 < lay.segments.n → (seg_at W lay 0).first ≡ 0
  pub rise : (i : ℕ) → i < lay.segments.n → (seg_at W lay i).first ≤ next_use W lay i
  pub within : (i : ℕ) → i < lay.segments.n → next_use W lay i ≤ lay.uses.n
