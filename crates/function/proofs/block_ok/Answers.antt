use Rattle.function.proofs.Rows.{block_bad, block_good}
use Rattle.function.proofs.block_ok.Goals as goal

pub returns-then-empty : goal.returns-then-empty
returns-then-empty c = block_bad _ _ _ c.count_at-empty.ensures c.if-empty.true

pub returns : goal.returns
returns c = block_good _ _ _ _ _ c.count_at-empty.ensures c.if-empty.false c.bits_at.ensures c.is_plain.ensures
