-- Where the tables of a job stand, its options and its segments. Assumes nothing.
use Rattle.std.specs.Prelude.{ℕ, ◌+◌, ◌-◌, ◌*◌, ◌/◌, ◌%◌, ◌≤◌, Bool, true, false, List, eqb, ltb, get_or}
use Rattle.std.specs.Float.{binary32}
use Rattle.std.specs.Float.Ieee.{of_bits}
use Rattle.words.specs.RowsAt.{rows_at}
use Rattle.definition.specs.declared.Use.{Use}
use Rattle.definition.specs.declared.UseFlags.{UseFlags}
use Rattle.definition.specs.declared.Options.{Options}
use Rattle.definition.specs.Types.{Segment, val, point}
use Rattle.job.specs.declared.Layout.{Layout}
use Rattle.job.specs.declared.SegRow.{SegRow}

-- k and the three scales
unfoldable pub options_row : List ℕ → ℕ → Options
options_row W i = record {
  adjust = get_or W i 0;
  cheaper_than_move = of_bits binary32 (get_or W (i + 1) 0);
  cheaper_than_load = of_bits binary32 (get_or W (i + 2) 0);
  indirect = of_bits binary32 (get_or W (i + 3) 0);
}

-- "Flags: 1 live-in, 2 live-out, 4 fixed hint, 8 fixed def."
unfoldable pub flags_of : ℕ → UseFlags
flags_of w = record { livein = eqb (w % 2) 1; liveout = eqb (w / 2 % 2) 1; fixedhint = eqb (w / 4 % 2) 1; fixeddef = eqb (w / 8 % 2) 1 }

unfoldable pub seg_row : List ℕ → ℕ → SegRow
unfolding flags_of
seg_row W i = record {
  value = val (get_or W i 0);
  «from» = point (get_or W (i + 1) 0);
  to = point (get_or W (i + 2) 0);
  flags = flags_of (get_or W (i + 3) 0);
  first = get_or W (i + 4) 0;
}

-- segment i's row
unfoldable pub seg_at : List ℕ → Layout → ℕ → SegRow
unfolding seg_row
seg_at W lay i = seg_row W (lay.segments.at + i * 5)

abbrev pub pick_n : Bool → ℕ → ℕ → ℕ
pick_n true x y = x
pick_n false x y = y

-- the uses of a segment are those from its own count up to the next segment's, the last one's up to the number of uses
unfoldable pub next_use : List ℕ → Layout → ℕ → ℕ
next_use W lay i = pick_n (ltb (i + 1) lay.segments.n) (get_or W (lay.segments.at + (i + 1) * 5 + 4) 0) lay.uses.n

-- the uses from number a up to b, by a decoder of use rows
unfoldable pub job_uses : (List ℕ → ℕ → Use) → List ℕ → Layout → ℕ → ℕ → List Use
job_uses row W lay a b = rows_at row W (lay.uses.at + a * 6) 6 (b - a)

unfoldable pub segment_of : (List ℕ → ℕ → Use) → List ℕ → Layout → ℕ → Segment
unfolding seg_at next_use job_uses
segment_of row W lay i = record {
  value = (seg_at W lay i).value;
  «from» = (seg_at W lay i).«from»;
  to = (seg_at W lay i).to;
  flags = (seg_at W lay i).flags;
  uses = job_uses row W lay (seg_at W lay i).first (next_use W lay i);
}

-- every table lies within the first N words
pub record Fits (N : ℕ) (lay : Layout) : Type 0 where
  pub opts : lay.opts + 4 ≤ N
  pub banks : lay.banks.at + lay.banks.n ≤ N
  pub classes : lay.classes.at + lay.classes.n * 4 ≤ N
  pub regs : lay.regs.at + lay.regs.n ≤ N
  pub blocks : lay.blocks.at + lay.blocks.n * 2 ≤ N
  pub values : lay.values.at + lay.values.n * 3 ≤ N
  pub vgroups : lay.vgroups.at + lay.vgroups.n * 9 ≤ N
  pub operands : lay.operands.at + lay.operands.n * 4 ≤ N
  pub hints : lay.hints.at + lay.hints.n * 3 ≤ N
  pub segments : lay.segments.at + lay.segments.n * 5 ≤ N
  pub uses : lay.uses.at + lay.uses.n * 6 ≤ N
