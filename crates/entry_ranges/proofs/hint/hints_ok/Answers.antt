use Rattle.std.proofs.Common.{rules, tests}
use Rattle.words.specs.Words.{words_of}
use Rattle.entry_ranges.proofs.HintTests.{hints_is}
use Rattle.entry_ranges.proofs.hint.hints_ok.Goals as goal

pub returns-then-hints_known : goal.returns-then-hints_known
returns-then-hints_known c = rw (hints_is (words_of c.args.counted.now.job.bytes.now) c.args.counted.now.job.lay) (search (rules, tests))

pub returns-else-hints_known : goal.returns-else-hints_known
returns-else-hints_known c = rw (hints_is (words_of c.args.counted.now.job.bytes.now) c.args.counted.now.job.lay) (search (rules, tests))
