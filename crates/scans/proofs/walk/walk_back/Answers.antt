use native.Mathlib.Omega.{arith}
use Rattle.scans.proofs.Walking.{astern_start, astern_next, astern_refused, astern_group, astern_end}
use Rattle.scans.proofs.walk.walk_back.Goals as goal

pub loop-n-init : goal.loop-n-init
loop-n-init c = astern_start _ _ _ _ _ c.requires.1 c.mask_of-mask.ensures

pub meet-requires : goal.meet-requires
meet-requires c =
    (c.requires.0, omega (arith, c.requires.2, c.loop-n-test.true, c.loop-n.invariant.to_b), c.loop-n.invariant.passing.masked)

pub returns-in-Refused : goal.returns-in-Refused
returns-in-Refused c = astern_refused c.loop-n.invariant c.loop-n-test.true _ c.meet.ensures c.in-Refused.is

pub returns-in-Group : goal.returns-in-Group
returns-in-Group c = astern_group c.loop-n.invariant c.loop-n-test.true

pub loop-n-preserved : goal.loop-n-preserved
loop-n-preserved c = astern_next c.loop-n.invariant c.loop-n-test.true _ _ c.meet.ensures c.in-Passed.is

pub returns : goal.returns
returns c = astern_end c.loop-n.invariant c.loop-n-test.false
