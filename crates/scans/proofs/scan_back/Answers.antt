use native.Mathlib.Omega.{arith}
use Rattle.constraints.proofs.Narrowing.{job_classes}
use Rattle.scans.proofs.Scanning.{backward_start, backward_walk, backward_refused, backward_next, backward_stop, backward_end}
use Rattle.scans.proofs.scan_back.Goals as goal

pub loop-n-init : goal.loop-n-init
loop-n-init c = backward_start _ _ _ _ _ _ (omega arith)

-- all uses are passed
pub returns-then-w-a-clause-ends : goal.returns-then-w-a-clause-ends
returns-then-w-a-clause-ends c = backward_end (backward_walk c.loop-n.invariant _ _ (job_classes _ _) c.walk_back-w.ensures) c.if-w-a.true

-- a class use is not admitted
pub returns-then-w-clause-ends : goal.returns-then-w-clause-ends
returns-then-w-clause-ends c = backward_refused c.loop-n.invariant _ _ (job_classes _ _) c.walk_back-w.ensures c.if-w.true

-- a group use is not admitted
pub returns-in_default-clause-ends : goal.returns-in_default-clause-ends
returns-in_default-clause-ends c =
    backward_stop (backward_walk c.loop-n.invariant _ _ (job_classes _ _) c.walk_back-w.ensures) _ (omega (arith, c.if-w-a.false)) (omega (arith, c.if-w-a.false)) _ c.admit_at.ensures c.in_default.is

pub loop-n-preserved : goal.loop-n-preserved
loop-n-preserved c =
    backward_next (backward_walk c.loop-n.invariant _ _ (job_classes _ _) c.walk_back-w.ensures) _ (omega (arith, c.if-w-a.false)) (omega (arith, c.if-w-a.false)) _ _ c.admit_at.ensures c.in-Some.is

pub loop-n-smaller : goal.loop-n-smaller
loop-n-smaller c = omega (arith, c.walk_back-w.ensures.to_b, c.if-w-a.false)

pub returns-clause-ends : goal.returns-clause-ends
returns-clause-ends c = backward_end c.loop-n.invariant c.loop-n-test.false
