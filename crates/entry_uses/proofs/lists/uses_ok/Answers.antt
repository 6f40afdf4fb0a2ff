use Rattle.std.proofs.Common.{rules, tests}
use Rattle.words.specs.Words.{words_of}
use Rattle.definition.specs.Entry.{uses_ok}
use Rattle.uses.specs.Rows.{raw_row}
use Rattle.job.specs.Layout.{segment_of}
use Rattle.job.specs.Job.{raw_job}
use Rattle.function.specs.Every.{every_from_all}
use Rattle.entry_uses.proofs.ListTests.{over_segments}
use Rattle.entry_uses.proofs.lists.uses_ok.Goals as goal

pub returns : goal.returns
returns c = let W = words_of c.args.bounded.now.indexed.job.bytes.now in
    over_segments W c.args.bounded.now.indexed.job.lay _ (every_from_all (uses_ok (raw_job W c.args.bounded.now.indexed.job.lay)) (segment_of raw_row W c.args.bounded.now.indexed.job.lay) c.args.bounded.now.indexed.job.lay.segments.n c.all.ensures.ran (λ x b q k. search (rules, tests)))
