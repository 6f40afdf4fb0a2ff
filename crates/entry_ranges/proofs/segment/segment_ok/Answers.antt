use Rattle.std.proofs.Common.{rules, tests}
use Rattle.words.specs.Words.{words_of}
use Rattle.entry_ranges.proofs.SegmentTests.{segment_is}
use Rattle.entry_ranges.proofs.segment.segment_ok.Goals as goal

pub returns-then-s-lay : goal.returns-then-s-lay
returns-then-s-lay c = rw (segment_is (words_of c.args.counted.now.job.bytes.now) c.args.counted.now.job.lay c.args.i _ c.seg_at-s.ensures _ c.args.counted.now.counted) (search (rules, tests))

pub returns-else-s-lay : goal.returns-else-s-lay
returns-else-s-lay c = rw (segment_is (words_of c.args.counted.now.job.bytes.now) c.args.counted.now.job.lay c.args.i _ c.seg_at-s.ensures _ c.args.counted.now.counted) (search (rules, tests))
