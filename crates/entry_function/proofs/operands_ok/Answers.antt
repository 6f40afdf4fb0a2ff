use Rattle.std.proofs.Common.{rules, tests}
use Rattle.words.specs.Words.{words_of}
use Rattle.definition.specs.Entry.{operand_ok}
use Rattle.values.specs.OperandRows.{operand_row, operands_at}
use Rattle.job.specs.Job.{raw_job}
use Rattle.function.specs.Every.{every_row_from_all}
use Rattle.entry_function.proofs.operands_ok.Goals as goal

pub returns : goal.returns
unfolding operands_at
returns c = let W = words_of c.args.counted.now.job.bytes.now in
    every_row_from_all (operand_ok (raw_job W c.args.counted.now.job.lay)) operand_row W c.args.counted.now.job.lay.operands.at 4 c.args.counted.now.job.lay.operands.n c.all.ensures.ran (λ x b q k. search (rules, tests))
