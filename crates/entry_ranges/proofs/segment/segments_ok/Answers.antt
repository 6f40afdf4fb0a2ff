use Rattle.std.proofs.Common.{rules, tests}
use Rattle.words.specs.Words.{words_of}
use Rattle.entry_ranges.proofs.SegmentTests.{segments_is}
use Rattle.entry_ranges.proofs.segment.segments_ok.Goals as goal

pub returns-then-segments_within : goal.returns-then-segments_within
returns-then-segments_within c = rw (segments_is (words_of c.args.counted.now.job.bytes.now) c.args.counted.now.job.lay) (search (rules, tests))

pub returns-else-segments_within : goal.returns-else-segments_within
returns-else-segments_within c = rw (segments_is (words_of c.args.counted.now.job.bytes.now) c.args.counted.now.job.lay) (search (rules, tests))
