-- The words of a job that is lent. Assumes nothing.
use Rattle.std.specs.Prelude.{ℕ, List}
use Rattle.words.specs.Words.{words_of}
use Rattle.job.specs.declared.job.Job.{Job}

abbrev pub words_in : Job → List ℕ
words_in job = words_of job.bytes.now
