use native.Mathlib.Omega.{arith}
use Rattle.live_range.proofs.Counting.{count_start, count_room, count_next, count_done}
use Rattle.live_range.proofs.insts.live_insts.Goals as goal

pub loop-i-init : goal.loop-i-init
loop-i-init c = count_start _ _ _

pub overflow_add-sum : goal.overflow_add-sum
overflow_add-sum c = let l = c.loop-i.invariant in
    omega (arith, count_room l (omega arith) (rw c.row_at.ensures.0 at c.range_at-s.ensures) c.new_insts-sum.ensures)

pub loop-i-preserved : goal.loop-i-preserved
loop-i-preserved c = let l = c.loop-i.invariant in
    count_next l (omega arith) (rw c.row_at.ensures.0 at c.range_at-s.ensures) c.new_insts-sum.ensures c.next_inst-counted.ensures

pub returns : goal.returns
returns c = count_done c.loop-i.invariant (omega arith)
