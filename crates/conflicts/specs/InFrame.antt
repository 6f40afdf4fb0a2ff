-- What the conflict registers of turned rows ask, and how they and a round end, of the frame and the slices. Conflicts
-- has it of words and layouts. Assumes nothing.
use Rattle.std.specs.Prelude.{ℕ, List, Result}
use Rattle.definition.specs.Types.{Out, State, Turned, Room}
use Rattle.words.specs.Words.{word_count, words_of}
use Rattle.job.specs.JobWords.{words_in}
use Rattle.job.specs.Job.{job_in}
use Rattle.frame.specs.declared.lent.Frame.{Frame}
use Rattle.definition.specs.declared.ValueSet.{ValueSet}
use Rattle.definition.specs.declared.RegClass.{RegClass}
use Rattle.virt_regs.specs.declared.Counts.{Counts}
use Rattle.placing.specs.EndEnds.{Placed}
use Rattle.placing.specs.declared.end.NotPlaced.{NotPlaced}
use Rattle.conflicts.specs.declared.RoundEnd.{RoundEnd}
use Rattle.conflicts.specs.Conflicts as conflicts

-- what the registers of these turned rows ask
abbrev pub Given : Frame → List ℕ → List ℕ → ℕ → ℕ → Counts → Type 0
Given fr work out = conflicts.Given (word_count fr.job.bytes.now) (word_count work) (word_count out) (words_in fr.job) (words_of work) (words_of out) fr.job.lay fr.wl fr.ol

-- how the registers of a run of conflicts end
abbrev pub EndsAs : Frame → List ℕ → List ℕ → Placed → Out State → Type 0
EndsAs fr out work = conflicts.EndsAs (job_in fr.job) fr.ol (words_in fr.job) fr.job.lay fr.wl (words_of out) (words_of work)

-- how a round ends
abbrev pub RoundAs : Frame → List ℕ → List ℕ → ℕ → Room → ValueSet → RegClass → Turned → ℕ → State → List Turned → Result RoundEnd NotPlaced → Type 0
RoundAs fr out work = conflicts.RoundAs (job_in fr.job) fr.ol (words_in fr.job) fr.job.lay fr.wl (words_of out) (words_of work)
