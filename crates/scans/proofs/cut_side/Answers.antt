use native.Mathlib.Omega.{arith}
use Rattle.scans.proofs.Costs.{side_early, side_late}
use Rattle.scans.proofs.cut_side.Goals as goal

pub returns-then-e-f : goal.returns-then-e-f
returns-then-e-f c = let f = c.cost_bits-f.ensures in
    let e = c.cost_bits-e.ensures in
    side_early _ _ _ _ _ f.0 e.0 f.1 e.1 (omega (arith, c.if-e-f.true))

pub returns : goal.returns
returns c = let f = c.cost_bits-f.ensures in
    let e = c.cost_bits-e.ensures in
    side_late _ _ _ _ _ f.0 e.0 f.1 e.1 (omega (arith, c.if-e-f.false))
