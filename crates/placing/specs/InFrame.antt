-- How a placing ends, of the frame and the slices before and after it. Ends has it of words and layouts. Assumes
-- nothing.
use Rattle.std.specs.Prelude.{ℕ, List}
use Rattle.definition.specs.Types.{Out, State}
use Rattle.words.specs.Words.{words_of}
use Rattle.job.specs.JobWords.{words_in}
use Rattle.job.specs.Job.{job_in}
use Rattle.frame.specs.declared.lent.Frame.{Frame}
use Rattle.placing.specs.EndEnds.{Placed}
use Rattle.placing.specs.EndEnds as ends

-- how a placing ends: the slices before and after
abbrev pub Ends : Frame → List ℕ → List ℕ → List ℕ → Placed → Out State → Type 0
Ends fr work out work' = ends.Ends (job_in fr.job) fr.ol (words_in fr.job) fr.job.lay fr.wl (words_of work) (words_of out) (words_of work')
