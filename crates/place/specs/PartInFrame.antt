-- What placing a part asks, the state that the slices stand for, and the part's pieces, of the frame. Asked has it of
-- words and layouts. Assumes nothing.
use Rattle.std.specs.Prelude.{ℕ, List}
use Rattle.words.specs.Words.{word_count, words_of}
use Rattle.job.specs.JobWords.{words_in}
use Rattle.job.specs.Job.{job_in}
use Rattle.frame.specs.declared.lent.Frame.{Frame}
use Rattle.set_part.specs.declared.SetPart.{SetPart}
use Rattle.definition.specs.Types.{State}
use Rattle.definition.specs.Types.{Piece}
use Rattle.virt_regs.specs.declared.Counts.{Counts}
use Rattle.constraints.specs.declared.Held.{Held}
use Rattle.place.specs.Asked as asked

-- what the placing of a part asks
abbrev pub Asked : Frame → List ℕ → List ℕ → SetPart → Held → Counts → Type 0
Asked fr work out = asked.Asked (word_count fr.job.bytes.now) (word_count work) (word_count out) (words_in fr.job) (words_of work) (words_of out) fr.job.lay fr.ol fr.wl

-- the slices stand for a state with these rows in use
abbrev pub Standing : Frame → List ℕ → List ℕ → Counts → State → Type 0
Standing fr out work = asked.Standing (job_in fr.job) fr.ol (words_of out) (words_in fr.job) (words_of work) fr.job.lay fr.wl

-- the pieces of a part
abbrev pub new_pieces : Frame → List ℕ → SetPart → List Piece
new_pieces fr work = asked.new_pieces (words_of work) fr.wl (words_in fr.job) fr.job.lay
