-- A working part cut at an instruction. Assumes nothing.
use Rattle.std.specs.Prelude.{ℕ, zero, suc, ◌+◌, ◌-◌, ◌*◌, true, false, cond, List, eqb, ltb, length}
use Rattle.definition.specs.declared.Inst.{Inst}
use Rattle.definition.specs.declared.LiveRangePoint.{LiveRangePoint}
use Rattle.definition.specs.declared.UseFlags.{UseFlags}
use Rattle.definition.specs.declared.Hint.{Hint}
use Rattle.definition.specs.Types.{point}
use Rattle.definition.specs.Cuts.{uses_before}
use Rattle.uses.specs.Rows.{uses_at}
use Rattle.hints.specs.Flags.{left_flags, right_flags}
use Rattle.job.specs.declared.Layout.{Layout}
use Rattle.job.specs.Layout.{seg_row}
use Rattle.set_part.specs.declared.SetPart.{SetPart}
use Rattle.set_part.specs.declared.PartSeg.{PartSeg}
use Rattle.set_part.specs.Part.{part_row}
use Rattle.set_part.specs.declared.cuts.Parts.{Parts}

-- the first of m segments from i on that does not end by point q, else the one behind them; the segment table is at word `at`
unfoldable pub past_from : List ℕ → ℕ → ℕ → ℕ → ℕ → ℕ
unfolding seg_row
past_from W at q i zero = i
past_from W at q i (suc m) = elim (ltb q (seg_row W (at + i * 5)).to.0) [ true ↦ i | false ↦ past_from W at q (i + 1) m ]

unfoldable pub first_past : List ℕ → Layout → SetPart → ℕ → ℕ
unfolding past_from
first_past W lay sp q = past_from W lay.segments.at q sp.seg (sp.last - sp.seg)

-- the part up to segment k, with an end of its own
unfoldable pub left_part : SetPart → ℕ → LiveRangePoint → UseFlags → ℕ → SetPart
left_part sp k t f e = record {
  seg = sp.seg;
  «from» = sp.«from»;
  flags = cond (eqb k sp.seg) f sp.flags;
  first = sp.first;
  last = k;
  to = t;
  tail = f;
  end = e;
}

-- the part from segment k on, with a beginning of its own
unfoldable pub right_part : SetPart → ℕ → LiveRangePoint → UseFlags → ℕ → SetPart
right_part sp k q f n = record {
  seg = k;
  «from» = q;
  flags = f;
  first = n;
  last = sp.last;
  to = sp.to;
  tail = sp.tail;
  end = sp.end;
}

-- the number of the first use of row r that is not before p
unfoldable pub mid_use : List ℕ → Layout → Inst → PartSeg → ℕ
unfolding uses_before uses_at
mid_use W lay p r = r.first + length (uses_before p (uses_at W (lay.uses.at + r.first * 6) (r.end - r.first)))

-- a cut across segment k, whose row is r
unfoldable pub cut_across : List Hint → List ℕ → Layout → Inst → SetPart → ℕ → PartSeg → Parts
unfolding left_part right_part left_flags right_flags mid_use
cut_across hs W lay p sp k r = record {
  left = left_part sp k (point (4 * p.0)) (left_flags hs p r.value r.«from» r.flags) (mid_use W lay p r);
  right = right_part sp k (point (4 * p.0)) (right_flags hs p r.value r.to r.flags) (mid_use W lay p r);
}

-- a cut between segment k - 1 and segment k, whose rows are o and r
unfoldable pub cut_between : SetPart → ℕ → PartSeg → PartSeg → Parts
unfolding left_part right_part
cut_between sp k o r = record { left = left_part sp (k - 1) o.to o.flags o.end; right = right_part sp k r.«from» r.flags r.first }

-- a cut where segment k is the first that does not end by it
unfoldable pub cut_at : List Hint → List ℕ → Layout → Inst → SetPart → ℕ → Parts
unfolding cut_across cut_between part_row
cut_at hs W lay p sp k =
    cond (ltb (part_row W lay sp k).«from».0 (4 * p.0)) (cut_across hs W lay p sp k (part_row W lay sp k)) (cut_between sp k (part_row W lay sp (k - 1)) (part_row W lay sp k))

unfoldable pub cut_part : List Hint → List ℕ → Layout → Inst → SetPart → Parts
unfolding cut_at first_past
cut_part hs W lay p sp = cut_at hs W lay p sp (first_past W lay sp (4 * p.0))
