use Rattle.vreg_weight.proofs.Reading.{near_here}
use Rattle.std.proofs.Common.{◌≤◌, ◌<◌, arith}
use Rattle.std.proofs.lemmas.Bool.Decides.{nat_tests}
use Rattle.vreg_weight.proofs.costs.block_near.Goals as goal

pub returns-then-lt : goal.returns-then-lt
returns-then-lt c =
    let le : c.start_at-from.result.0 ≤ c.args.inst.0 = grind (arith, nat_tests, c.if-le.ensures) in
    let lt : c.args.inst.0 < c.start_at.result.0 = grind (arith, nat_tests, c.if-lt.ensures) in
    let near = near_here _ _ _ _ _ _ _ c.start_at-from.ensures c.start_at.ensures c.requires le lt in
    (near.0, λ bs e. near.1 bs e.starts e.long)
