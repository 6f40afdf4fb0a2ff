use Rattle.std.proofs.Common.{rules, tests}
use Rattle.words.specs.Words.{words_of}
use Rattle.definition.specs.Entry.{in_order}
use Rattle.uses.specs.Rows.{raw_row}
use Rattle.job.specs.Layout.{segment_of}
use Rattle.job.specs.Job.{raw_job}
use Rattle.function.specs.Chained.{chained_from_all}
use Rattle.entry_ranges.proofs.segment.segments_sorted.Goals as goal

pub returns : goal.returns
returns c = let W = words_of c.args.job.now.bytes.now in
    chained_from_all (in_order (raw_job W c.args.job.now.lay)) (segment_of raw_row W c.args.job.now.lay) c.args.job.now.lay.segments.n c.all.ensures.ran (λ x b q k. search (rules, tests))
