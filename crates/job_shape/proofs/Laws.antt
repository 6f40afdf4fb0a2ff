-- Laws of a job's shape: what test 1 gives, and the counts of the job that the words stand for. Assumes nothing.
use Prim.Native.Nat.{ℕ, zero, suc, ◌+◌, ◌-◌, ◌*◌, ◌≤◌, ◌<◌}
use native.Mathlib.Omega.{arith}
use mathlib.Core.Path.{◌≡◌, refl, sym}
use mathlib.Core.Bool.{true, false}
use mathlib.Core.List.{List}
use lib.Dec.{leb, eqb}
use lib.ListN.{length, get_or}
use borrow.Author.Tests.{lt-ltb, le-ltb, leb-true, eqb-true}
use Rattle.words.specs.Tab.{tab, length_tab}
use Rattle.words.specs.RowsAt.{rows_at, length_rows_at}
use Rattle.words.specs.Words.{word_count, words_of}
use Rattle.definition.specs.declared.Use.{Use}
use Rattle.definition.specs.declared.Refusal.TheVariants.{NotARecord}
use Rattle.definition.specs.Types.{Segment, Job, Room, refused}
use Rattle.definition.specs.Entry.{answer}
use Rattle.definition.proofs.Entries.{and_both, conj_all}
use Rattle.definition.specs.Place.{total}
use Rattle.reginfo.specs.Rows.{bank_row, memory_row, class_row, classes_at}
use Rattle.function.specs.Blocks.{block_row}
use Rattle.values.specs.ValueRows.{value_row, values_at, vgroup_row, vgroups_at}
use Rattle.values.specs.OperandRows.{operand_row, operands_at}
use Rattle.hints.specs.Hints.{hint_at}
use Rattle.uses.specs.Rows.{use_row, raw_row}
use Rattle.job.specs.declared.Layout.{Layout}
use Rattle.job.specs.Layout.{Fits, seg_row, seg_at, next_use, job_uses, segment_of}
use Rattle.job.specs.Job.{job_by, raw_job, job_of}
use Rattle.job_shape.specs.Shape.{layout_of, end_of, use_counts, rises, counts_ok, table_tests, tables_ok, shape_tests, shape_ok, Shaped}
use Rattle.job_shape.specs.Answer.{binary_job, answer_if, binary_answer}

-- ---- what test 1 gives

-- a slice that holds all that its header says holds each table
pub layout_fits : (s : List ℕ) → end_of (layout_of (words_of s)) * 4 ≤ length s → Fits (word_count s) (layout_of (words_of s))
unfolding layout_of
layout_fits s h =
    record {
      opts = omega arith;
      banks = omega arith;
      classes = omega arith;
      regs = omega arith;
      blocks = omega arith;
      values = omega arith;
      vgroups = omega arith;
      operands = omega arith;
      hints = omega arith;
      segments = omega arith;
      uses = omega arith;
    }

tables_shaped : (s : List ℕ) (lay : Layout) → Fits (word_count s) lay → tables_ok (words_of s) lay ≡ true → Shaped s lay
unfolding tables_ok
tables_shaped s lay f e =
    let a = conj_all (table_tests (words_of s) lay) e in
    record {
      fits = f;
      banks = leb-true 1 _ a.0;
      classes = leb-true 1 _ a.1.0;
      blocks = leb-true 1 _ a.1.1.0;
      choices = a.1.1.1.0;
      counts = a.1.1.1.1.0;
    }

pub shaped : (s : List ℕ) → shape_ok s ≡ true → Shaped s (layout_of (words_of s))
unfolding shape_ok
shaped s e =
    let a = conj_all (shape_tests s) e in
    let exact : length s ≡ 4 * end_of (layout_of (words_of s)) = eqb-true _ _ a.1.0 in
    tables_shaped s (layout_of (words_of s)) (layout_fits s (omega arith)) a.1.1.0

-- ---- the uses of the segments

module _ (row : List ℕ → ℕ → Use) (W : List ℕ) (lay : Layout) where
  -- how many uses come before segment i
  abbrev first_at : ℕ → ℕ
  first_at i = get_or W (lay.segments.at + i * 5 + 4) 0

  abbrev how_many : Segment → ℕ
  how_many s = length s.uses

  length_uses : (i : ℕ) → length (segment_of row W lay i).uses ≡ next_use W lay i - first_at i
  unfolding segment_of job_uses seg_at seg_row
  length_uses i = length_rows_at row W _ 6 _

  next_last : (i : ℕ) → lay.segments.n ≤ i + 1 → next_use W lay i ≡ lay.uses.n
  unfolding next_use
  next_last i h = rw (le-ltb (i + 1) lay.segments.n h)

  next_more : (i : ℕ) → i + 1 < lay.segments.n → next_use W lay i ≡ first_at (i + 1)
  unfolding next_use
  next_more i h = rw (lt-ltb (i + 1) lay.segments.n h)

  sum_from : (k i : ℕ) → i + suc k ≡ lay.segments.n → rises (first_at i) (tab first_at (i + 1) k) lay.uses.n ≡ true
      → (first_at i ≤ lay.uses.n) × (total how_many (tab (segment_of row W lay) i (suc k)) ≡ lay.uses.n - first_at i)
  unfolding rises total
  sum_from zero i h e =
      let l = leb-true _ _ e in
      (l, omega (arith, length_uses i, next_last i (omega arith)))
  sum_from (suc k) i h e =
      let b = and_both (leb (first_at i) (first_at (i + 1))) (rises (first_at (i + 1)) (tab first_at (i + 1 + 1) k) lay.uses.n) e in
      let l : first_at i ≤ first_at (i + 1) = leb-true _ _ b.0 in
      let r = sum_from k (i + 1) (omega arith) b.1 in
      let m : first_at (i + 1) ≤ lay.uses.n = r.0 in
      let t : total how_many (tab (segment_of row W lay) (i + 1) (suc k)) ≡ lay.uses.n - first_at (i + 1) = r.1 in
      (omega arith, omega (arith, length_uses i, next_more i (omega arith)))

  sum_all : (n : ℕ) → n ≡ lay.segments.n → get_or (tab first_at 0 n) 0 lay.uses.n ≡ 0 → rises 0 (tab first_at 0 n) lay.uses.n ≡ true
      → total how_many (tab (segment_of row W lay) 0 n) ≡ lay.uses.n
  unfolding rises total
  sum_all zero h f e = sym f
  sum_all (suc k) h f e =
      let b = and_both (leb 0 (first_at 0)) (rises (first_at 0) (tab first_at 1 k) lay.uses.n) e in
      let r = sum_from k 0 (omega arith) b.1 in
      let t : total how_many (tab (segment_of row W lay) 0 (suc k)) ≡ lay.uses.n - first_at 0 = r.1 in
      omega arith

  -- where the use counts rise from 0, the segments have all uses of the table between them
  pub uses_total : counts_ok W lay ≡ true → total (λ s. length s.uses) (job_by row W lay).segments ≡ lay.uses.n
  unfolding counts_ok use_counts rows_at job_by
  uses_total h =
      let b = and_both (eqb (get_or (use_counts W lay) 0 lay.uses.n) 0) (rises 0 (use_counts W lay) lay.uses.n) h in
      sum_all lay.segments.n refl (eqb-true _ _ b.0) b.1

-- ---- the counts of a job are those of its tables

pub record Counted (job : Job) (lay : Layout) : Type 0 where
  pub banks : length job.banks ≡ lay.banks.n
  pub classes : length job.classes ≡ lay.classes.n
  pub memory : length job.memory ≡ lay.regs.n
  pub blocks : length job.blocks ≡ lay.blocks.n
  pub values : length job.values ≡ lay.values.n
  pub vgroups : length job.vgroups ≡ lay.vgroups.n
  pub operands : length job.operands ≡ lay.operands.n
  pub hints : length job.hints ≡ lay.hints.n
  pub segments : length job.segments ≡ lay.segments.n
  pub uses : total (λ s. length s.uses) job.segments ≡ lay.uses.n

pub counted : (row : List ℕ → ℕ → Use) (W : List ℕ) (lay : Layout) → counts_ok W lay ≡ true → Counted (job_by row W lay) lay
unfolding job_by classes_at values_at vgroups_at operands_at
counted row W lay h =
    record {
      banks = length_rows_at bank_row W _ 1 _;
      classes = length_rows_at class_row W _ 4 _;
      memory = length_rows_at memory_row W _ 1 _;
      blocks = length_rows_at block_row W _ 2 _;
      values = length_rows_at value_row W _ 3 _;
      vgroups = length_rows_at vgroup_row W _ 9 _;
      operands = length_rows_at operand_row W _ 4 _;
      hints = length_rows_at hint_at W _ 3 _;
      segments = length_tab (segment_of row W lay) 0 _;
      uses = uses_total row W lay h;
    }

pub raw_counted : (W : List ℕ) (lay : Layout) → counts_ok W lay ≡ true → Counted (raw_job W lay) lay
unfolding raw_job
raw_counted W lay h = counted raw_row W lay h

pub job_counted : (W : List ℕ) (lay : Layout) → counts_ok W lay ≡ true → Counted (job_of W lay) lay
unfolding job_of
job_counted W lay h = counted use_row W lay h

-- ---- a binary job

-- the layout's numbers of rows are the header's words
pub record Headed (W : List ℕ) (lay : Layout) : Type 0 where
  pub banks : lay.banks.n ≡ get_or W 0 0
  pub classes : lay.classes.n ≡ get_or W 1 0
  pub regs : lay.regs.n ≡ get_or W 2 0
  pub blocks : lay.blocks.n ≡ get_or W 3 0
  pub values : lay.values.n ≡ get_or W 4 0
  pub vgroups : lay.vgroups.n ≡ get_or W 5 0
  pub operands : lay.operands.n ≡ get_or W 6 0
  pub hints : lay.hints.n ≡ get_or W 7 0
  pub segments : lay.segments.n ≡ get_or W 8 0
  pub uses : lay.uses.n ≡ get_or W 9 0

pub headed : (W : List ℕ) → Headed W (layout_of W)
unfolding layout_of
headed W =
    record { banks = refl; classes = refl; regs = refl; blocks = refl; values = refl; vgroups = refl; operands = refl; hints = refl; segments = refl; uses = refl }

-- a slice of good shape stands for a job with as many rows of each table as its header says
pub binary_counted : (s : List ℕ) → shape_ok s ≡ true → Counted (binary_job s) (layout_of (words_of s))
unfolding binary_job
binary_counted s e = raw_counted (words_of s) (layout_of (words_of s)) (shaped s e).counts

-- the answer to a slice off its shape, and to any other
pub off_shape : (s : List ℕ) (room : Room) → shape_ok s ≡ false → binary_answer s room ≡ refused NotARecord
unfolding binary_answer answer_if
off_shape s room e = rw (e, answer_if)

pub on_shape : (s : List ℕ) (room : Room) → shape_ok s ≡ true → binary_answer s room ≡ answer (binary_job s) room
unfolding binary_answer answer_if
on_shape s room e = rw (e, answer_if)
