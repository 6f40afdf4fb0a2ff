use Rattle.std.proofs.Common.{rules, tests}
use Rattle.words.specs.Rows.{row_words}
use Rattle.definition.specs.Entry.{block_ok}
use Rattle.function.specs.Blocks.{block_row}
use Rattle.function.specs.Every.{every_row_from_all}
use Rattle.function.proofs.blocks_ok.Goals as goal

pub returns : goal.returns
returns c = every_row_from_all block_ok block_row (row_words c.args.blocks.now) c.args.blocks.now.at 2 c.args.blocks.now.n c.all.ensures.ran (λ x b q k. search (rules, tests))
