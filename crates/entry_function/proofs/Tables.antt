-- The tables of the job that words stand for, and what test 2 says of their counts. Assumes nothing.
use Prim.Native.Nat.{ℕ, ◌+◌, ◌*◌, ◌<◌}
use native.Mathlib.Omega.{arith}
use mathlib.Core.Path.{◌≡◌, refl, sym, ap, ◌∙◌}
use mathlib.Core.Bool.{Bool, true}
use mathlib.Core.List.{List, []}
use lib.ListN.{length, get_or}
use borrow.Author.Tests.{leb-true}
use Rattle.words.specs.Tab.{tab, length_tab}
use Rattle.words.specs.RowsAt.{rows_at, length_rows_at, get_or_rows_at}
use Rattle.definition.specs.declared.RegClass.{RegClass}
use Rattle.definition.specs.declared.ValueGroup.{ValueGroup}
use Rattle.definition.specs.declared.ClassData.{ClassData}
use Rattle.definition.specs.declared.Value.{Value}
use Rattle.definition.specs.Types.{Job}
use Rattle.definition.specs.RegInfo.{no_class, class_at}
use Rattle.definition.specs.Entry.{insts_of, insts, limit_tests, limits_ok, vgroup_values}
use Rattle.reginfo.specs.Rows.{class_row, classes_at, bank_row, memory_row}
use Rattle.function.specs.Blocks.{block_row, blocks_at}
use Rattle.values.specs.ValueRows.{values_at, vgroup_row, vgroups_at}
use Rattle.values.specs.OperandRows.{operands_at}
use Rattle.values.proofs.Rows as operand_rows
use Rattle.values.proofs.Values.{values_long}
use Rattle.values.proofs.Members.{groups_long, group_row_at}
use Rattle.hints.specs.Hints.{hint_at}
use Rattle.uses.specs.Rows.{raw_row}
use Rattle.job.specs.declared.Layout.{Layout}
use Rattle.job.specs.Layout.{segment_of}
use Rattle.job.specs.Job.{job_by, raw_job}
use Rattle.entry_function.specs.Counts.{Within}
use Rattle.entry_function.proofs.Scans.{conj_at}

module _ (W : List ℕ) (lay : Layout) where
  pub raw_values : (raw_job W lay).values ≡ values_at W lay.values.at lay.values.n
  unfolding raw_job job_by
  raw_values = refl

  pub raw_classes : (raw_job W lay).classes ≡ classes_at W lay.classes.at lay.classes.n
  unfolding raw_job job_by
  raw_classes = refl

  pub raw_vgroups : (raw_job W lay).vgroups ≡ vgroups_at W lay.vgroups.at lay.vgroups.n
  unfolding raw_job job_by
  raw_vgroups = refl

  pub raw_operands : (raw_job W lay).operands ≡ operands_at W lay.operands.at lay.operands.n
  unfolding raw_job job_by
  raw_operands = refl

  pub raw_blocks : (raw_job W lay).blocks ≡ blocks_at W lay.blocks.at lay.blocks.n
  unfolding raw_job job_by
  raw_blocks = refl

  -- the number of instructions, as `count_insts` of crate function gives it
  pub raw_insts : insts (raw_job W lay) ≡ insts_of (blocks_at W lay.blocks.at lay.blocks.n)
  unfolding insts
  raw_insts = ap insts_of raw_blocks

  pub raw_hints : (raw_job W lay).hints ≡ rows_at hint_at W lay.hints.at 3 lay.hints.n
  unfolding raw_job job_by
  raw_hints = refl

  pub raw_segments : (raw_job W lay).segments ≡ tab (segment_of raw_row W lay) 0 lay.segments.n
  unfolding raw_job job_by
  raw_segments = refl

  pub values_count : length (raw_job W lay).values ≡ lay.values.n
  values_count = ap length raw_values ∙ values_long W lay.values.at lay.values.n

  pub vgroups_count : length (raw_job W lay).vgroups ≡ lay.vgroups.n
  vgroups_count = ap length raw_vgroups ∙ groups_long W lay.vgroups.at lay.vgroups.n

  pub operands_count : length (raw_job W lay).operands ≡ lay.operands.n
  operands_count = ap length raw_operands ∙ operand_rows.long W lay.operands.at lay.operands.n

  pub classes_count : length (raw_job W lay).classes ≡ lay.classes.n
  unfolding raw_job job_by classes_at
  classes_count = length_rows_at class_row W lay.classes.at 4 lay.classes.n

  pub blocks_count : length (raw_job W lay).blocks ≡ lay.blocks.n
  blocks_count = ap length raw_blocks ∙ length_rows_at block_row W lay.blocks.at 2 lay.blocks.n

  pub hints_count : length (raw_job W lay).hints ≡ lay.hints.n
  hints_count = ap length raw_hints ∙ length_rows_at hint_at W lay.hints.at 3 lay.hints.n

  pub segments_count : length (raw_job W lay).segments ≡ lay.segments.n
  segments_count = ap length raw_segments ∙ length_tab (segment_of raw_row W lay) 0 lay.segments.n

  pub banks_count : length (raw_job W lay).banks ≡ lay.banks.n
  unfolding raw_job job_by
  banks_count = length_rows_at bank_row W lay.banks.at 1 lay.banks.n

  pub regs_count : length (raw_job W lay).memory ≡ lay.regs.n
  unfolding raw_job job_by
  regs_count = length_rows_at memory_row W lay.regs.at 1 lay.regs.n

  -- a class and a value group from their rows
  pub class_size : (c : RegClass) → c.0 < lay.classes.n → (class_at (raw_job W lay) c).size ≡ get_or W (lay.classes.at + c.0 * 4 + 2) 0
  unfolding raw_job job_by class_at classes_at class_row
  class_size c h = ap (λ (d : ClassData). d.size) (get_or_rows_at class_row W lay.classes.at 4 lay.classes.n c.0 no_class h)

  pub members_row : (g : ValueGroup) → g.0 < lay.vgroups.n → vgroup_values (raw_job W lay) g ≡ vgroup_row W (lay.vgroups.at + g.0 * 9)
  unfolding vgroup_values
  members_row g h =
      ap (λ (gs : List (List Value)). get_or gs g.0 []) raw_vgroups ∙ sym (group_row_at W lay.vgroups.at lay.vgroups.n g.0 h)

  -- what test 2 says
  pub limits_within : limits_ok (raw_job W lay) ≡ true → Within W lay
  unfolding limits_ok
  limits_within e =
      record {
        insts = leb-true _ _ (conj_at ts 0 e (omega arith));
        blocks = omega (arith, blocks_count, leb-true (length J.blocks) 512 (conj_at ts 1 e (omega arith)));
        values = omega (arith, values_count, leb-true (length J.values) 1024 (conj_at ts 2 e (omega arith)));
        vgroups = omega (arith, vgroups_count, leb-true (length J.vgroups) 256 (conj_at ts 3 e (omega arith)));
        operands = omega (arith, operands_count, leb-true (length J.operands) 1024 (conj_at ts 4 e (omega arith)));
        hints = omega (arith, hints_count, leb-true (length J.hints) 1024 (conj_at ts 5 e (omega arith)));
        segments = omega (arith, segments_count, leb-true (length J.segments) 1024 (conj_at ts 6 e (omega arith)));
        classes = omega (arith, classes_count, leb-true (length J.classes) 32 (conj_at ts 8 e (omega arith)));
        banks = omega (arith, banks_count, leb-true (length J.banks) 8 (conj_at ts 9 e (omega arith)));
        regs = omega (arith, regs_count, leb-true (length J.memory) 256 (conj_at ts 10 e (omega arith)));
      }
    where
      J : Job
      J = raw_job W lay

      ts : List Bool
      ts = limit_tests (raw_job W lay)
