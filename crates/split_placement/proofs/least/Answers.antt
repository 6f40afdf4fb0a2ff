use native.Mathlib.Omega.{arith}
use Rattle.split_placement.proofs.Walks.{walk_next, walk_end}
use Rattle.split_placement.proofs.least.Goals as goal

pub loop-j-preserved : goal.loop-j-preserved
loop-j-preserved c = walk_next c.loop-j.invariant _ c.loop-j-test.true c.lower-best.ensures

pub returns : goal.returns
returns c = (walk_end c.loop-j.invariant c.loop-j-test.false, omega arith)
