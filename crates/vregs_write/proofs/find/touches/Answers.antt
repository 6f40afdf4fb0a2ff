use Rattle.vregs_write.proofs.Scans.{touch_as, touch_not}
use Rattle.vregs_write.proofs.find.touches.Goals as goal

pub returns-then-lt : goal.returns-then-lt
returns-then-lt c = touch_as c.args.ol _ _ _ _ _ c.piece_at-row.ensures _ c.lt.ensures c.if-lt.true _ c.lt-then-lt.ensures

pub returns-else-lt : goal.returns-else-lt
returns-else-lt c = touch_not c.args.ol _ _ _ _ _ c.piece_at-row.ensures _ c.lt.ensures c.if-lt.false
