use Rattle.vreg_weight.proofs.Least.{least_next, least_end}
use Rattle.vreg_weight.proofs.least_weight.Goals as goal

pub loop-j-preserved : goal.loop-j-preserved
loop-j-preserved c = least_next _ _ _ _ _ _ _ _ c.loop-j-test.true c.loop-j.invariant c.lesser_other-least.ensures

pub returns : goal.returns
returns c = least_end _ _ _ _ _ _ _ c.loop-j.least.weighs c.loop-j-test.false c.loop-j.invariant
