-- The answer to a binary job. Assumes nothing.
use Rattle.std.specs.Prelude.{ℕ, Bool, true, false, List}
use Rattle.words.specs.Words.{words_of}
use Rattle.definition.specs.Types.{Job, Room, Out, refused}
use Rattle.definition.specs.declared.Refusal.TheVariants.{NotARecord}
use Rattle.definition.specs.Entry.{answer}
use Rattle.definition.specs.Build.{Result}
use Rattle.job.specs.Job.{raw_job}
use Rattle.job_shape.specs.Shape.{layout_of, shape_ok}

-- the job that a slice of good shape stands for
unfoldable pub binary_job : List ℕ → Job
unfolding raw_job layout_of
binary_job s = raw_job (words_of s) (layout_of (words_of s))

unfoldable pub answer_if : Bool → Job → Room → Out Result
unfolding answer
answer_if true job room = answer job room
answer_if false job room = refused NotARecord

-- "1 to 7 go by number, lowest first": a slice off its shape is 1, any other has the answer to its job
unfoldable pub binary_answer : List ℕ → Room → Out Result
unfolding answer_if shape_ok binary_job
binary_answer s room = answer_if (shape_ok s) (binary_job s) room
