use native.Mathlib.Omega.{arith}
use Rattle.function.proofs.Loops.{put_first, put_fits, put_next, put_last}
use Rattle.function.proofs.starts.put_starts.Goals as goal

pub loop-i-init : goal.loop-i-init
loop-i-init c = put_first _ _ _ _ _

pub overflow_add-first : goal.overflow_add-first
overflow_add-first c = omega (arith, put_fits _ c.loop-i.invariant c.loop-i-test.true c.count_at-first.ensures)

pub loop-i-preserved : goal.loop-i-preserved
loop-i-preserved c = put_next _ _ c.loop-i.invariant c.loop-i-test.true (omega arith) c.bits_at.ensures c.put_start.ensures c.put_start.auto.starts c.count_at-first.ensures

pub returns : goal.returns
returns c = put_last _ c.loop-i.invariant c.loop-i-test.false (omega arith) c.put_start-2.ensures
