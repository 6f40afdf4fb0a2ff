use Rattle.std.proofs.Common.{rules, tests}
use Rattle.words.specs.Rows.{row_words}
use Rattle.uses.specs.Rows.{raw_row}
use Rattle.function.specs.Chained.{chained_row_from_all}
use Rattle.entry_uses.specs.ListTests.{not_falling}
use Rattle.entry_uses.proofs.lists.uses_rise.Goals as goal

pub returns : goal.returns
unfolding not_falling raw_row
returns c = chained_row_from_all not_falling raw_row (row_words c.args.uses.now) c.args.uses.now.at 6 c.args.uses.now.n c.all.ensures.ran (λ x b q k. search (rules, tests))
