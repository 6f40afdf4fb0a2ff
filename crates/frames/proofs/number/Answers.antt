use Rattle.frames.proofs.Spelling.{spelling_next, spelling_none, spelling_done}
use Rattle.frames.proofs.number.Goals as goal

pub returns-then-d-gt9 : goal.returns-then-d-gt9
returns-then-d-gt9 c = spelling_none _ _ _ _ _ c.loop-i.invariant c.loop-i-test.true c.digit-d.ensures c.if-d-gt9.true

pub loop-i-preserved : goal.loop-i-preserved
loop-i-preserved c = spelling_next _ _ _ _ _ c.loop-i.invariant c.loop-i-test.true c.digit-d.ensures c.if-d-gt9.false

pub returns : goal.returns
returns c = spelling_done _ _ _ _ c.loop-i.invariant c.loop-i-test.false
