use Rattle.std.proofs.Common.{arith}
use Rattle.vregs_write.proofs.Scans.{ends_next, ends_stop, ends_done}
use Rattle.vregs_write.proofs.find.ends_by.Goals as goal

pub returns-then-lt : goal.returns-then-lt
returns-then-lt c = (c.loop-i.invariant.within, ends_stop _ _ _ _ _ _ c.loop-i.invariant c.loop-i-test.true _ c.piece_at.ensures _ c.lt.ensures c.if-lt.true)

pub loop-i-preserved : goal.loop-i-preserved
loop-i-preserved c = ends_next _ _ _ _ _ _ c.loop-i.invariant c.loop-i-test.true _ c.piece_at.ensures _ c.lt.ensures c.if-lt.false

pub returns : goal.returns
returns c = (omega arith, ends_done _ _ _ _ _ _ c.loop-i.invariant c.loop-i-test.false)
