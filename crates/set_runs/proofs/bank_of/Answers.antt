use Rattle.set_runs.proofs.Segments.{bank_known, bank_past}
use Rattle.set_runs.proofs.bank_of.Goals as goal

pub returns-then-k-lay : goal.returns-then-k-lay
returns-then-k-lay c = bank_known _ _ _ _ _ (cc) c.if-k-lay.true c.value_at.ensures

pub returns-else-k-lay : goal.returns-else-k-lay
returns-else-k-lay c = bank_past _ _ _ _ (cc) c.if-k-lay.false
