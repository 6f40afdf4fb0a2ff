use Rattle.std.proofs.Common.{rules, tests}
use Rattle.words.specs.Words.{words_of}
use Rattle.definition.specs.Entry.{not_after}
use Rattle.hints.specs.Hints.{hint_at}
use Rattle.function.specs.Chained.{chained_row_from_all}
use Rattle.entry_ranges.proofs.hint.hints_sorted.Goals as goal

pub returns : goal.returns
returns c = chained_row_from_all not_after hint_at (words_of c.args.job.now.bytes.now) c.args.job.now.lay.hints.at 3 c.args.job.now.lay.hints.n c.all.ensures.ran (λ x b q k. search (rules, tests))
