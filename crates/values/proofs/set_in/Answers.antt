use Rattle.values.proofs.Values.{set_known, set_past}
use Rattle.values.proofs.set_in.Goals as goal

pub returns-then-k-values : goal.returns-then-k-values
returns-then-k-values c = set_known _ _ _ _ _ _ (cc) c.if-k-values.true c.word_of.ensures

pub returns-else-k-values : goal.returns-else-k-values
returns-else-k-values c = set_past _ _ _ _ _ (cc) c.if-k-values.false
