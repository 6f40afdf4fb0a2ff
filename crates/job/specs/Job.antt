-- The job that a slice of words stands for, by its layout. Assumes nothing.
use Rattle.std.specs.Prelude.{ℕ, List}
use Rattle.words.specs.Tab.{tab}
use Rattle.words.specs.RowsAt.{rows_at}
use Rattle.definition.specs.declared.Use.{Use}
use Rattle.definition.specs.Types.{Job}
use Rattle.reginfo.specs.Rows.{bank_row, memory_row, classes_at}
use Rattle.function.specs.Blocks.{blocks_at}
use Rattle.values.specs.ValueRows.{values_at, vgroups_at}
use Rattle.values.specs.OperandRows.{operands_at}
use Rattle.hints.specs.Hints.{hint_at}
use Rattle.uses.specs.Rows.{use_row, raw_row}
use Rattle.job.specs.declared.Layout.{Layout}
use Rattle.job.specs.declared.job.Job as lent
use Rattle.job.specs.Layout.{options_row, segment_of}
use Rattle.job.specs.JobWords.{words_in}

-- the job, by a decoder of use rows
unfoldable pub job_by : (List ℕ → ℕ → Use) → List ℕ → Layout → Job
unfolding options_row segment_of
job_by row W lay = record {
  options = options_row W lay.opts;
  banks = rows_at bank_row W lay.banks.at 1 lay.banks.n;
  classes = classes_at W lay.classes.at lay.classes.n;
  memory = rows_at memory_row W lay.regs.at 1 lay.regs.n;
  blocks = blocks_at W lay.blocks.at lay.blocks.n;
  values = values_at W lay.values.at lay.values.n;
  vgroups = vgroups_at W lay.vgroups.at lay.vgroups.n;
  operands = operands_at W lay.operands.at lay.operands.n;
  hints = rows_at hint_at W lay.hints.at 3 lay.hints.n;
  segments = tab (segment_of row W lay) 0 lay.segments.n;
}

-- the job as its words stand
unfoldable pub raw_job : List ℕ → Layout → Job
raw_job W lay = job_by raw_row W lay

-- the same with the fields of its uses modulo their UseKind types, which is what code reads: the same job where the fields fit
unfoldable pub job_of : List ℕ → Layout → Job
job_of W lay = job_by use_row W lay

-- the jobs that a lent one stands for
abbrev pub raw_in : lent.Job → Job
raw_in job = raw_job (words_in job) job.lay

abbrev pub job_in : lent.Job → Job
job_in job = job_of (words_in job) job.lay
