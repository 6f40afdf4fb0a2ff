-- That a part is laid out, and that each use has room for a turned row, of the frame and the work slice. Laid and Turns
-- have it of words and layouts. Assumes nothing.
use Rattle.std.specs.Prelude.{ℕ, List}
use Rattle.words.specs.Words.{word_count, words_of}
use Rattle.job.specs.JobWords.{words_in}
use Rattle.frame.specs.declared.lent.Frame.{Frame}
use Rattle.set_part.specs.declared.SetPart.{SetPart}
use Rattle.steps.specs.Laid as laid
use Rattle.steps.specs.Turns as turns

-- a part is laid out behind so many turned rows
abbrev pub Laid : Frame → List ℕ → SetPart → ℕ → Type 0
Laid fr work = laid.Laid (word_count fr.job.bytes.now) (word_count work) (words_in fr.job) (words_of work) fr.job.lay fr.wl

-- there is a turned row for each use
abbrev pub TurnRoom : Frame → List ℕ → Type 0
TurnRoom fr work = turns.TurnRoom (word_count work) fr.job.lay fr.wl
