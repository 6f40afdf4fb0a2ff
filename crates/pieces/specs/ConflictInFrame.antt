-- The turned rows in the work slice and the uses that they stand for, of the frame. Conflict has them of words and
-- layouts. Assumes nothing.
use Rattle.std.specs.Prelude.{ℕ, List}
use Rattle.words.specs.Words.{word_count, words_of}
use Rattle.job.specs.JobWords.{words_in}
use Rattle.frame.specs.declared.lent.Frame.{Frame}
use Rattle.definition.specs.declared.Use.{Use}
use Rattle.definition.specs.Types.{Turned}
use Rattle.pieces.specs.Conflict as conflict

-- the use of a turned row
abbrev pub row_use : Frame → List ℕ → ℕ → Use
row_use fr work = conflict.row_use (words_of work) fr.wl.turned (words_in fr.job) fr.job.lay

-- the turned rows from one number up to another
abbrev pub turned_rows_of : Frame → List ℕ → ℕ → ℕ → List Turned
turned_rows_of fr work = conflict.turned_rows_of (words_of work) fr.wl.turned (words_in fr.job) fr.job.lay

-- these turned rows stand in the work slice
abbrev pub RowsOk : Frame → List ℕ → ℕ → ℕ → Type 0
RowsOk fr work = conflict.RowsOk (word_count work) (words_of work) fr.wl.turned fr.job.lay
