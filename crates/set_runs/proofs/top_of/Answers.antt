use Rattle.set_runs.proofs.Segments.{top_known, top_past}
use Rattle.set_runs.proofs.top_of.Goals as goal

pub returns-then-k-lay : goal.returns-then-k-lay
returns-then-k-lay c = top_known _ _ _ _ _ (cc) c.if-k-lay.true c.bank_at.ensures

pub returns-else-k-lay : goal.returns-else-k-lay
returns-else-k-lay c = top_past _ _ _ _ (cc) c.if-k-lay.false
