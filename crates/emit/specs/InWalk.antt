-- What a walk puts, of what pieces are weighed by: Told has it of a job, the result tables and words. Assumes nothing.
use Rattle.std.specs.Prelude.{ℕ, ◌+◌, ◌≤◌, List}
use Rattle.words.specs.Words.{word_count}
use Rattle.definition.specs.declared.BlockData.{BlockData}
use Rattle.definition.specs.declared.Remat.{Remat}
use Rattle.definition.specs.declared.Use.{Use}
use Rattle.definition.specs.Types.{Piece}
use Rattle.frame.specs.InFrame.{marked_use}
use Rattle.pieces.specs.ConflictInFrame.{row_use}
use Rattle.virt_regs.specs.declared.OutLayout.{OutLayout}
use Rattle.vreg_weight.specs.InWeighing.{weighed_job}
use Rattle.vreg_weight.specs.declared.weighing.Weighing.{Weighing}
use Rattle.emit.specs.declared.tally.Costs.{Costs}
use Rattle.emit.specs.declared.tally.Tally.{Tally}
use Rattle.emit.specs.Told as told

-- the result tables' numbers of rows
abbrev pub tables_in : Weighing → OutLayout
tables_in by = by.fr.now.ol

-- the job's blocks
abbrev pub blocks_in : Weighing → List BlockData
blocks_in by = (weighed_job by).blocks

-- the job's uses, marked ones as conflicts, and those of the turned rows
abbrev pub use_in : Weighing → ℕ → Use
use_in by = marked_use by.fr.now by.work.now

abbrev pub turned_in : Weighing → ℕ → Use
turned_in by = row_use by.fr.now by.work.now

-- uses a to b - 1 of the job, whose marks stand in the work slice
pub record UsesOk (by : Weighing) (a b : ℕ) : Type 0 where
  pub order : a ≤ b
  pub within : b ≤ by.fr.now.job.lay.uses.n
  pub marks : by.fr.now.wl.marks + by.fr.now.job.lay.uses.n ≤ word_count by.work.now
  pub inside : told.InsideRun (weighed_job by) (use_in by) a b

-- the walk goes on with uses, and with a piece
abbrev pub UsesAdd : Weighing → ℕ → Remat → List Use → List ℕ → Costs → List ℕ → Costs → Type 0
UsesAdd by = told.UsesAdd (weighed_job by) (tables_in by)

abbrev pub PieceAdds : Weighing → ℕ → ℕ → Piece → List ℕ → Tally → List ℕ → Tally → Type 0
PieceAdds by = told.PieceAdds (weighed_job by) (tables_in by)
