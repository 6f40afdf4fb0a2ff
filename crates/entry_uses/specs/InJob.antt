-- That a job passed test 4 and the work slice holds the index of its operands, of the job that is lent. KindTests has it of
-- words and a layout. Assumes nothing.
use Rattle.std.specs.Prelude.{ℕ, List}
use Rattle.words.specs.Words.{word_count, words_of}
use Rattle.values.specs.declared.operands.Chains.{Chains}
use Rattle.job.specs.declared.job.Job.{Job}
use Rattle.job.specs.JobWords.{words_in}
use Rattle.entry_uses.specs.KindTests as tests

-- the job passed test 4, and the work slice holds the index of its operands
abbrev pub Ready : Job → List ℕ → Chains → Type 0
Ready job work = tests.Ready (word_count job.bytes.now) (word_count work) (words_in job) (words_of work) job.lay
