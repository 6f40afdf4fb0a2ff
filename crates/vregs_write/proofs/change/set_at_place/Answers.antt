use Rattle.vregs_write.proofs.Loops.{place_none, place_some}
use Rattle.vregs_write.proofs.change.set_at_place.Goals as goal

pub returns-then-m-ne0 : goal.returns-then-m-ne0
returns-then-m-ne0 c = place_some _ _ _ _ _ c.if-m-ne0.true c.set_class_weight.ensures

pub returns-else-m-ne0 : goal.returns-else-m-ne0
returns-else-m-ne0 c = place_none _ _ _ _ c.if-m-ne0.false
