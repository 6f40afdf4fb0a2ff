-- What a step asks and does, and how all steps end, of the frame and the slices. Steps has it of words and layouts.
-- Assumes nothing.
use Rattle.std.specs.Prelude.{ℕ, List, Result}
use Rattle.definition.specs.Types.{Out}
use Rattle.definition.specs.Build.{Built}
use Rattle.words.specs.Words.{word_count, words_of}
use Rattle.job.specs.JobWords.{words_in}
use Rattle.job.specs.Job.{job_in}
use Rattle.frame.specs.declared.lent.Frame.{Frame}
use Rattle.set_part.specs.declared.SetPart.{SetPart}
use Rattle.definition.specs.declared.RegClass.{RegClass}
use Rattle.virt_regs.specs.declared.Counts.{Counts}
use Rattle.constraints.specs.declared.Held.{Held}
use Rattle.placing.specs.declared.end.NotPlaced.{NotPlaced}
use Rattle.definition.specs.Admit.{Move}
use Rattle.definition.specs.declared.Stop.{Stop}
use Rattle.build_part.specs.declared.Next.{Next}
use Rattle.build_part.specs.declared.Step.{Step}
use Rattle.build_part.specs.declared.StepsEnd.{StepsEnd}
use Rattle.build_part.specs.Steps as steps
use Rattle.build_part.specs.Turning as turning

-- what a step asks
abbrev pub StepReady : Frame → List ℕ → List ℕ → SetPart → Counts → ℕ → Type 0
StepReady fr work out = steps.StepReady (word_count fr.job.bytes.now) (word_count work) (word_count out) (words_in fr.job) (words_of work) (words_of out) fr.job.lay fr.ol fr.wl

-- what the scans lead to
abbrev pub Moves : Frame → List ℕ → List ℕ → RegClass → SetPart → Move → Type 0
Moves fr work out = steps.Moves (words_in fr.job) (words_of work) (words_of out) fr.job.lay fr.ol fr.wl

-- the part that is to be placed, or the stop
abbrev pub NextOr : Frame → List ℕ → List ℕ → RegClass → SetPart → Result Next Stop → Type 0
NextOr fr work out = steps.NextOr (words_in fr.job) (words_of work) (words_of out) fr.job.lay fr.ol fr.wl

-- the scan up to a use, and what it comes to
abbrev pub Passes : Frame → List ℕ → List ℕ → RegClass → SetPart → ℕ → Held → Type 0
Passes fr work out = steps.Passes (words_in fr.job) (words_of work) (words_of out) fr.job.lay fr.ol fr.wl

-- what turning uses of a part leaves
abbrev pub Turning : Frame → List ℕ → List ℕ → List ℕ → RegClass → SetPart → ℕ → ℕ → Type 0
Turning fr work work' out = turning.Turning (word_count fr.job.bytes.now) (word_count work) (words_in fr.job) (words_of work) (words_of work') (words_of out) fr.job.lay fr.ol fr.wl

-- what a step does to the work slice
abbrev pub Stepped : Frame → List ℕ → List ℕ → SetPart → ℕ → Result Step NotPlaced → Type 0
Stepped fr work work' = steps.Stepped (word_count fr.job.bytes.now) (word_count work) (words_in fr.job) (words_of work) (words_of work') fr.job.lay fr.wl

-- how all steps end
abbrev pub BuiltFit : Frame → List ℕ → List ℕ → Result StepsEnd NotPlaced → Out Built → Type 0
BuiltFit fr out work = steps.BuiltFit (job_in fr.job) fr.ol (words_in fr.job) fr.job.lay fr.wl (words_of out) (words_of work)
