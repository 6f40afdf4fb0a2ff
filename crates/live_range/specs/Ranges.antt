-- The points of segments, and the instructions that they touch. Assumes nothing.
use Rattle.std.specs.Prelude.{ℕ, ◌+◌, ◌-◌, max, false, List, [], map, get_or}
use Rattle.std.proofs.Common.{arith}
use Rattle.words.specs.RowsAt.{rows_at, Reads}
use Rattle.words.specs.declared.rows.lent.Rows.{Rows}
use Rattle.words.specs.Rows.{row_words}
use Rattle.definition.specs.Types.{Segment, val, point}
use Rattle.definition.specs.LiveRange.{inst_of, next_inst, live_insts}
use Rattle.live_range.specs.declared.insts.LiveRangeSegment.{LiveRangeSegment}

abbrev pub range_of : Segment → LiveRangeSegment
range_of s = record { «from» = s.«from»; to = s.to }

-- a segment that has these points, and no uses
abbrev pub bare : LiveRangeSegment → Segment
bare r = record {
  value = val 0;
  «from» = r.«from»;
  to = r.to;
  flags = record { livein = false; liveout = false; fixedhint = false; fixeddef = false };
  uses = [];
}

-- the points in a row of a table of pieces (value, from, to, ..) that begins at word i
unfoldable pub range_at : List ℕ → ℕ → LiveRangeSegment
range_at W i = record { «from» = point (get_or W (i + 1) 0); to = point (get_or W (i + 2) 0) }

-- the points of lent pieces
abbrev pub ranges_in : Rows 7 → List LiveRangeSegment
ranges_in t = rows_at range_at (row_words t) t.at 7 t.n

-- the instructions that a range touches, those below n left out
abbrev pub new_insts : ℕ → LiveRangeSegment → ℕ
new_insts n r = next_inst r.to - max n (inst_of r.«from»)

-- the definition's `live_insts` of segments with these points
unfoldable pub range_insts : List LiveRangeSegment → ℕ
unfolding live_insts
range_insts rs = live_insts (map bare rs)

-- of a row it reads two words
pub range_reads : Reads 7 range_at
unfolding range_at
range_reads W W' i k h = rw (h 1 (omega arith), h 2 (omega arith))
