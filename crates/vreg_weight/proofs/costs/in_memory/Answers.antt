use Rattle.vreg_weight.proofs.Reading.{memory_known, memory_past}
use Rattle.vreg_weight.proofs.costs.in_memory.Goals as goal

pub returns-then-k-n : goal.returns-then-k-n
returns-then-k-n c = memory_known _ _ _ _ _ (cc) c.if-k-n.true c.is_memory.ensures

pub returns : goal.returns
returns c = memory_past _ _ _ _ (cc) c.if-k-n.false
