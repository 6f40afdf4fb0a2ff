-- What admission needs of the work slice, when the slices stand for a state, and what an operand says, of the frame.
-- Ready has it of words and layouts. Assumes nothing.
use Rattle.std.specs.Prelude.{ℕ, List}
use Rattle.std.specs.Prelude as code
use Rattle.words.specs.Words.{word_count, words_of}
use Rattle.job.specs.JobWords.{words_in}
use Rattle.frame.specs.declared.lent.Frame.{Frame}
use Rattle.definition.specs.Types.{State}
use Rattle.constraints.specs.declared.OperandGroup.{OperandGroup}
use Rattle.definition.specs.declared.Inst.{Inst}
use Rattle.constraints.specs.Ready as ready

-- an accepted job, and its work slice
abbrev pub Ready : Frame → List ℕ → Type 0
Ready fr work = ready.Ready (word_count fr.job.bytes.now) (word_count work) (words_in fr.job) (words_of work) fr.job.lay fr.wl

-- the slices stand for a state
abbrev pub Stands : Frame → List ℕ → List ℕ → State → Type 0
Stands fr out work = ready.Stands fr.ol (words_of out) (words_in fr.job) (words_of work) fr.job.lay fr.wl

-- what an operand says
abbrev pub OperandIs : Frame → List ℕ → ℕ → OperandGroup → Type 0
OperandIs fr work = ready.OperandIs (words_in fr.job) (words_of work) fr.job.lay fr.wl

-- what the operand at an instruction and slot says
abbrev pub Said : Frame → List ℕ → Inst → ℕ → code.Option OperandGroup → Type 0
Said fr work = ready.Said (words_in fr.job) (words_of work) fr.job.lay fr.wl
