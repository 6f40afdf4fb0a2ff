-- The uses and the segments of a working part, and that it is one, of the frame and the work slice. Crate set_part has
-- them of words and layouts. Assumes nothing.
use Rattle.std.specs.Prelude.{ℕ, List}
use Rattle.words.specs.Words.{words_of}
use Rattle.job.specs.JobWords.{words_in}
use Rattle.frame.specs.declared.lent.Frame.{Frame}
use Rattle.definition.specs.declared.Use.{Use}
use Rattle.set_part.specs.declared.SetPart.{SetPart}
use Rattle.definition.specs.Types.{Segment}
use Rattle.set_part.specs.Part as part

-- a use of the job by its number, a conflict where it is marked
abbrev pub marked_use : Frame → List ℕ → ℕ → Use
marked_use fr work = part.marked_use (words_of work) fr.wl.marks (words_in fr.job) fr.job.lay

-- the segments of a part, with its marked uses
abbrev pub part_segs : Frame → List ℕ → SetPart → List Segment
part_segs fr work = part.part_segs (words_of work) fr.wl.marks (words_in fr.job) fr.job.lay

-- a part of the job's segments and uses
abbrev pub PartOk : Frame → SetPart → Type 0
PartOk fr = part.PartOk (words_in fr.job) fr.job.lay
