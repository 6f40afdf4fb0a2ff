use Rattle.std.proofs.Common.{rules, tests}
use Rattle.words.specs.Words.{words_of}
use Rattle.hints.specs.Hints.{hint_at}
use Rattle.job.specs.Job.{raw_job}
use Rattle.function.specs.Every.{every_row_from_all}
use Rattle.entry_ranges.specs.HintTests.{hint_known}
use Rattle.entry_ranges.proofs.hint.hints_known.Goals as goal

pub returns : goal.returns
returns c = let W = words_of c.args.counted.now.job.bytes.now in
    every_row_from_all (hint_known (raw_job W c.args.counted.now.job.lay)) hint_at W c.args.counted.now.job.lay.hints.at 3 c.args.counted.now.job.lay.hints.n c.all.ensures.ran (λ x b q k. search (rules, tests))
