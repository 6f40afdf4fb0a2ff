use Rattle.reginfo.proofs.Common.{mask_known, mask_past}
use Rattle.scans.proofs.walk.mask_of.Goals as goal

pub returns-then-k-n : goal.returns-then-k-n
returns-then-k-n c = mask_known _ _ _ _ _ _ (cc) c.if-k-n.true c.word_at.ensures

pub returns : goal.returns
returns c = mask_past _ _ _ _ _ (cc) c.if-k-n.false
