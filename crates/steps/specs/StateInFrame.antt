-- When the slices stand for a state that fits, and what the builder needs of a job and its tables, of the frame. Fits
-- and Builds have it of words and layouts. Assumes nothing.
use Rattle.std.specs.Prelude.{ℕ, List}
use Rattle.words.specs.Words.{word_count, words_of}
use Rattle.job.specs.JobWords.{words_in}
use Rattle.job.specs.Job.{job_in}
use Rattle.frame.specs.declared.lent.Frame.{Frame}
use Rattle.definition.specs.Types.{State}
use Rattle.virt_regs.specs.declared.Counts.{Counts}
use Rattle.steps.specs.Fits as fits
use Rattle.steps.specs.Builds as builds

-- the slices stand for a state that fits
abbrev pub StandsAs : Frame → List ℕ → List ℕ → Counts → State → Type 0
StandsAs fr out work = fits.StandsAs (job_in fr.job) fr.ol (words_of out) (words_in fr.job) (words_of work) fr.job.lay fr.wl

-- an accepted job, and its result tables
abbrev pub Builds : Frame → List ℕ → Type 0
Builds fr out = builds.Builds (word_count out) (words_in fr.job) fr.job.lay fr.ol
