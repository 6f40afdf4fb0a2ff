use native.Mathlib.Omega.{arith}
use Rattle.vreg_weight.proofs.Sums.{blocks_long, scales_small, block_finite, summing_start, summing_next, summing_end}
use Rattle.vreg_weight.proofs.sum_uses.Goals as goal

pub loop-i-init : goal.loop-i-init
loop-i-init c = summing_start _ _ _ _ _ _ _ c.args.by.now.weighable.filled

pub frequency_of-frequency-requires : goal.frequency_of-frequency-requires
frequency_of-frequency-requires c = let w = c.args.by.now.weighable in
    (omega (arith, c.block_near-b.ensures.0), block_finite _ _ _ _ _ w.table c.block_near-b.ensures.0)

pub add_use-total-requires : goal.add_use-total-requires
add_use-total-requires c = let b = c.args.by.now in
    scales_small _ _ _ b.weighable.book b.of_job

pub loop-i-preserved : goal.loop-i-preserved
loop-i-preserved c = let b = c.args.by.now in
    let near = c.block_near-b.ensures in
    summing_next c.loop-i.invariant _ _ c.loop-i-test.true b.weighable.table (blocks_long _ _) b.of_job (rw c.row_at.ensures.0 at c.use_at-u.ensures) (near.0, λ cs s e. near.1 cs (record { starts = s; long = e })) c.use_cost-cost.ensures c.frequency_of-frequency.ensures c.add_use-total.ensures

pub returns : goal.returns
returns c = summing_end c.loop-i.invariant c.loop-i-test.false
