-- What one set asks, and what all sets ask, of the frame and the slices. Sets has it of words and layouts. Assumes
-- nothing.
use Rattle.std.specs.Prelude.{ℕ, List}
use Rattle.words.specs.Words.{word_count, words_of}
use Rattle.job.specs.JobWords.{words_in}
use Rattle.frame.specs.declared.lent.Frame.{Frame}
use Rattle.virt_regs.specs.declared.Counts.{Counts}
use Rattle.build.specs.SetsSets as sets

-- what a set asks
abbrev pub SetReady : Frame → List ℕ → List ℕ → ℕ → ℕ → Counts → Type 0
SetReady fr work out = sets.SetReady (word_count fr.job.bytes.now) (word_count work) (word_count out) (words_in fr.job) (words_of work) (words_of out) fr.job.lay fr.wl fr.ol

-- what all sets ask
abbrev pub SetsReady : Frame → List ℕ → List ℕ → Type 0
SetsReady fr work out = sets.SetsReady (word_count fr.job.bytes.now) (word_count work) (word_count out) (words_in fr.job) (words_of work) (words_of out) fr.job.lay fr.wl fr.ol
