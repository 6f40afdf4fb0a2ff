use Rattle.function.proofs.Rows.{count_first, count_next, count_last}
use Rattle.function.proofs.count_insts.Goals as goal

pub loop-i-init : goal.loop-i-init
loop-i-init c = count_first _ _ _

pub loop-i-preserved : goal.loop-i-preserved
loop-i-preserved c = count_next _ _ c.loop-i.invariant c.loop-i-test.true c.count_at.ensures c.count_at.type_inv c.from-total.ensures

pub returns : goal.returns
returns c = count_last c.loop-i.invariant c.loop-i-test.false
