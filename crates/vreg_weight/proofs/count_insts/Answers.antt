use native.Mathlib.Omega.{arith}
use Rattle.live_range.proofs.Counting.{count_start, count_next}
use Rattle.vreg_weight.proofs.Insts.{count_over, count_all}
use Rattle.vreg_weight.proofs.count_insts.Goals as goal

pub loop-i-init : goal.loop-i-init
loop-i-init c = (count_start _ _ _, omega arith)

pub returns-then-sum-more : goal.returns-then-sum-more
returns-then-sum-more c = let l = c.loop-i.invariant in count_over l.0 (omega arith) (rw c.row_at.ensures.0 at c.range_at-s.ensures) c.new_insts-more.ensures l.1 c.if-sum-more.true

pub loop-i-preserved : goal.loop-i-preserved
loop-i-preserved c = let l = c.loop-i.invariant in (count_next l.0 (omega arith) (rw c.row_at.ensures.0 at c.range_at-s.ensures) c.new_insts-more.ensures c.next_inst-counted.ensures, omega arith)

pub returns : goal.returns
returns c = count_all _ c.loop-i.invariant.0 c.loop-i-test.false c.loop-i.invariant.1 (omega (arith, c.max.ensures))
