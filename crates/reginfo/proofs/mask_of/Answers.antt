use Rattle.reginfo.proofs.Common.{mask_known, mask_past}
use Rattle.reginfo.proofs.mask_of.Goals as goal

-- src/lib.rt:61:1
pub returns-then-k-classes : goal.returns-then-k-classes
returns-then-k-classes c = mask_known _ _ _ _ _ _ (cc) c.if-k-classes.true (rw c.row_at.ensures.0 at c.word_at.ensures)

-- src/lib.rt:61:1
pub returns-else-k-classes : goal.returns-else-k-classes
returns-else-k-classes c = mask_past _ _ _ _ _ (cc) c.if-k-classes.false
