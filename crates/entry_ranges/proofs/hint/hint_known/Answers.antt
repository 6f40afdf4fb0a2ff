use Rattle.std.proofs.Common.{rules, tests}
use Rattle.words.specs.Words.{words_of}
use Rattle.entry_ranges.proofs.HintTests.{known_is}
use Rattle.entry_ranges.proofs.hint.hint_known.Goals as goal

pub returns-then-h-lay : goal.returns-then-h-lay
returns-then-h-lay c = rw (← c.hint_at-h.ensures, known_is (words_of c.args.counted.now.job.bytes.now) c.args.counted.now.job.lay _ _ c.args.counted.now.counted) (search (rules, tests))

pub returns-else-h-lay : goal.returns-else-h-lay
returns-else-h-lay c = rw (← c.hint_at-h.ensures, known_is (words_of c.args.counted.now.job.bytes.now) c.args.counted.now.job.lay _ _ c.args.counted.now.counted) (search (rules, tests))
