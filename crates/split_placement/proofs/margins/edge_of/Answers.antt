use native.Mathlib.Omega.{arith}
use Rattle.split_placement.proofs.Leaves.{edge_next, edge_end}
use Rattle.split_placement.proofs.margins.edge_of.Goals as goal

pub loop-i-preserved : goal.loop-i-preserved
loop-i-preserved c = edge_next _ _ _ _ c.loop-i.invariant c.loop-i-test.true c.lower-e.ensures

pub returns : goal.returns
returns c = edge_end _ _ _ _ c.loop-i.invariant c.loop-i-test.false (omega arith)
