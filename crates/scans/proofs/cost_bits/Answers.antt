use Rattle.scans.proofs.Costs.{cost_known, cost_past}
use Rattle.scans.proofs.cost_bits.Goals as goal

pub returns-then-k-n : goal.returns-then-k-n
returns-then-k-n c = cost_known _ _ _ _ _ (cc) c.if-k-n.true c.requires c.word_at.ensures

pub returns : goal.returns
returns c = cost_past _ _ _ _ (cc) c.if-k-n.false
