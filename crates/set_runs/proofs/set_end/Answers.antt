use native.Mathlib.Omega.{arith}
use Rattle.std.proofs.Common.{rules, tests}
use Rattle.set_runs.proofs.Segments.{set_start, set_next, set_stop, set_done}
use Rattle.set_runs.proofs.set_end.Goals as goal

pub loop-e-init : goal.loop-e-init
loop-e-init c = set_start _ _ _ _ c.set_at-first.ensures (omega arith)

pub returns-then-ne : goal.returns-then-ne
returns-then-ne c = set_stop _ _ _ _ _ c.loop-e.invariant _ c.set_at.ensures (search (rules, tests))

pub loop-e-preserved : goal.loop-e-preserved
loop-e-preserved c = set_next _ _ _ _ _ c.loop-e.invariant _ c.set_at.ensures (search (rules, tests)) c.loop-e-test.true

pub returns : goal.returns
returns c = set_done _ _ _ _ _ c.loop-e.invariant c.loop-e-test.false
