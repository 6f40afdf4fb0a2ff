use native.Mathlib.Omega.{arith}
use Rattle.constraints.proofs.Narrowing.{job_classes}
use Rattle.scans.proofs.Scanning.{forward_start, forward_walk, forward_refused, forward_next, forward_stop, forward_end}
use Rattle.scans.proofs.scan_uses.Goals as goal

pub loop-n-init : goal.loop-n-init
loop-n-init c = forward_start _ _ _ _ _ _ (omega arith)

-- a class use is not admitted
pub returns-then-w-clause-ends : goal.returns-then-w-clause-ends
returns-then-w-clause-ends c = forward_refused c.loop-n.invariant _ _ (job_classes _ _) c.walk_uses-w.ensures c.if-w.true

-- all uses are passed
pub returns-then-b-w-clause-ends : goal.returns-then-b-w-clause-ends
returns-then-b-w-clause-ends c = forward_end (forward_walk c.loop-n.invariant _ _ (job_classes _ _) c.walk_uses-w.ensures) c.if-b-w.true

-- a group use is not admitted
pub returns-in_default-clause-ends : goal.returns-in_default-clause-ends
returns-in_default-clause-ends c =
    forward_stop (forward_walk c.loop-n.invariant _ _ (job_classes _ _) c.walk_uses-w.ensures) _ c.if-b-w.false c.admit_at.ensures c.in_default.is

pub loop-n-preserved : goal.loop-n-preserved
loop-n-preserved c =
    forward_next (forward_walk c.loop-n.invariant _ _ (job_classes _ _) c.walk_uses-w.ensures) _ _ c.if-b-w.false c.admit_at.ensures c.in-Some.is

pub loop-n-smaller : goal.loop-n-smaller
loop-n-smaller c = omega (arith, c.walk_uses-w.ensures.from_a, c.if-b-w.false)

pub returns-clause-ends : goal.returns-clause-ends
returns-clause-ends c = forward_end c.loop-n.invariant c.loop-n-test.false
