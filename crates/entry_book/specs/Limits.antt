-- Test 2 by the counts of a layout. Assumes nothing.
use Rattle.std.specs.Prelude.{ℕ, ◌≤◌, Bool, List, [], ◌∷◌, leb, get_or}
use Rattle.definition.specs.Limits.{max_insts, max_blocks, max_values, max_vgroups, max_operands, max_hints, max_segments, max_uses, max_classes, max_banks, max_regs, max_adjust}
use Rattle.definition.specs.Entry.{insts_of}
use Rattle.function.specs.Blocks.{blocks_at}
use Rattle.job.specs.declared.Layout.{Layout}

-- in the order of the definition's tests
abbrev pub function_counts : Layout → List Bool
function_counts lay =
    leb lay.blocks.n max_blocks ∷ leb lay.values.n max_values ∷ leb lay.vgroups.n max_vgroups ∷ leb lay.operands.n max_operands ∷ leb lay.hints.n max_hints ∷ []

abbrev pub other_counts : Layout → List Bool
other_counts lay =
    leb lay.segments.n max_segments ∷ leb lay.uses.n max_uses ∷ leb lay.classes.n max_classes ∷ leb lay.banks.n max_banks ∷ leb lay.regs.n max_regs ∷ []

-- what test 2 gives to those behind it
pub record Limited (W : List ℕ) (lay : Layout) : Type 0 where
  pub insts : insts_of (blocks_at W lay.blocks.at lay.blocks.n) ≤ max_insts
  pub blocks : lay.blocks.n ≤ max_blocks
  pub values : lay.values.n ≤ max_values
  pub vgroups : lay.vgroups.n ≤ max_vgroups
  pub operands : lay.operands.n ≤ max_operands
  pub hints : lay.hints.n ≤ max_hints
  pub segments : lay.segments.n ≤ max_segments
  pub uses : lay.uses.n ≤ max_uses
  pub classes : lay.classes.n ≤ max_classes
  pub banks : lay.banks.n ≤ max_banks
  pub regs : lay.regs.n ≤ max_regs
  pub adjust : get_or W lay.opts 0 ≤ max_adjust
