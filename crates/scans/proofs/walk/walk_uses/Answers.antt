use mathlib.Core.Path.{sym}
use native.Mathlib.Omega.{arith}
use Rattle.values.proofs.Twice.{never}
use Rattle.scans.proofs.Walking.{ahead_start, ahead_next, ahead_end, meets_none}
use Rattle.scans.proofs.walk.walk_uses.Goals as goal

pub loop-n-init : goal.loop-n-init
loop-n-init c = ahead_start _ _ _ _ _ c.requires.1 c.mask_of-mask.ensures

pub meet-requires : goal.meet-requires
meet-requires c = (c.requires.0, omega (arith, c.requires.2, c.loop-n-test.true), c.loop-n.invariant.passing.masked)

-- one that is not admitted
pub returns-in-Refused : goal.returns-in-Refused
returns-in-Refused c = let i = c.loop-n.invariant in
    record { from_a = i.from_a; to_b = i.to_b; within = λ _. c.loop-n-test.true; passed = i.passing.passed; stopped = λ _. meets_none _ _ _ _ c.meet.ensures c.in-Refused.is }

-- a group use comes next
pub returns-in-Group : goal.returns-in-Group
returns-in-Group c = let i = c.loop-n.invariant in
    record { from_a = i.from_a; to_b = i.to_b; within = λ q. never (sym q); passed = i.passing.passed; stopped = λ q. never (sym q) }

pub loop-n-preserved : goal.loop-n-preserved
loop-n-preserved c = ahead_next c.loop-n.invariant c.loop-n-test.true _ _ c.meet.ensures c.in-Passed.is

pub returns : goal.returns
returns c = let i = ahead_end c.loop-n.invariant c.loop-n-test.false in
    record { from_a = i.from_a; to_b = i.to_b; within = λ q. never (sym q); passed = i.passing.passed; stopped = λ q. never (sym q) }
