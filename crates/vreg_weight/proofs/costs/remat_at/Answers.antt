use Rattle.vreg_weight.proofs.Reading.{remat_known, remat_past}
use Rattle.vreg_weight.proofs.costs.remat_at.Goals as goal

pub returns-then-k-n : goal.returns-then-k-n
returns-then-k-n c = remat_known _ _ _ _ _ (cc) c.if-k-n.true c.value_at-d.ensures

pub returns : goal.returns
returns c = remat_past _ _ _ _ (cc) c.if-k-n.false
