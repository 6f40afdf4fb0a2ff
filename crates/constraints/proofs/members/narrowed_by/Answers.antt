use native.Mathlib.Omega.{arith}
use Rattle.constraints.proofs.Narrowing.{narrow_next, narrow_stop, narrow_end}
use Rattle.constraints.proofs.members.narrowed_by.Goals as goal

pub returns-in_err-class : goal.returns-in_err-class
returns-in_err-class c = rw c.from_residual.ensures (narrow_stop c.loop-i.invariant _ _ c.member_at-m.ensures c.narrow.ensures c.in_err-class.was)

pub loop-i-preserved : goal.loop-i-preserved
loop-i-preserved c = narrow_next c.loop-i.invariant _ _ c.member_at-m.ensures c.narrow.ensures _ c.in_ok-class.was

pub returns : goal.returns
returns c = narrow_end c.loop-i.invariant (omega arith)
