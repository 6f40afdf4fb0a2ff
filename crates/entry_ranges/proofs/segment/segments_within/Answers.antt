use Rattle.std.proofs.Common.{rules, tests}
use Rattle.words.specs.Words.{words_of}
use Rattle.definition.specs.Entry.{segment_ok}
use Rattle.uses.specs.Rows.{raw_row}
use Rattle.job.specs.Layout.{segment_of}
use Rattle.job.specs.Job.{raw_job}
use Rattle.function.specs.Every.{every_from_all}
use Rattle.entry_ranges.proofs.segment.segments_within.Goals as goal

pub returns : goal.returns
returns c = let W = words_of c.args.counted.now.job.bytes.now in
    every_from_all (segment_ok (raw_job W c.args.counted.now.job.lay)) (segment_of raw_row W c.args.counted.now.job.lay) c.args.counted.now.job.lay.segments.n c.all.ensures.ran (λ x b q k. search (rules, tests))
