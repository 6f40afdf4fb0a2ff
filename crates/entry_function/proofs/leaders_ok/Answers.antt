use Rattle.std.proofs.Common.{rules, tests}
use Rattle.words.specs.Words.{words_of}
use Rattle.definition.specs.Entry.{leader_ok}
use Rattle.values.specs.ValueRows.{value_row, values_at}
use Rattle.job.specs.Job.{raw_job}
use Rattle.function.specs.Every.{every_row_from_all}
use Rattle.entry_function.proofs.leaders_ok.Goals as goal

pub returns : goal.returns
unfolding values_at
returns c = let W = words_of c.args.job.now.bytes.now in
    every_row_from_all (leader_ok (raw_job W c.args.job.now.lay)) value_row W c.args.job.now.lay.values.at 3 c.args.job.now.lay.values.n c.all.ensures.ran (λ x b q k. search (rules, tests))
