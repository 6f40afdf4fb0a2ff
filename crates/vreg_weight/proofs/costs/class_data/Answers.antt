use lib.Ieee.{of_bits}
use Rattle.weights.proofs.Costs.{zero_small}
use Rattle.vreg_weight.proofs.Reading.{class_known, class_past}
use Rattle.vreg_weight.proofs.costs.class_data.Goals as goal

pub returns-then-k-n : goal.returns-then-k-n
returns-then-k-n c = class_known _ _ _ _ _ (cc) c.if-k-n.true c.requires c.class_at.ensures

pub returns : goal.returns
unfolding of_bits
returns c = (class_past _ _ _ _ (cc) c.if-k-n.false, zero_small)
