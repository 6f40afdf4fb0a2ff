use native.Mathlib.Omega.{arith}
use Rattle.vreg_weight.proofs.Sums.{blocks_long, block_finite}
use Rattle.emit.proofs.Use.{near_found}
use Rattle.emit.proofs.near_at.Goals as goal

pub frequency_of-requires : goal.frequency_of-requires
frequency_of-requires c = let w = c.args.by.now.weighable in
    (omega (arith, c.block_of-b.ensures.0), block_finite _ _ _ _ _ w.table c.block_of-b.ensures.0)

pub returns : goal.returns
returns c = let f = c.block_of-b.ensures in
    near_found _ _ _ _ _ _ _ _ c.frequency_of.result c.args.by.now.weighable.table (blocks_long _ _) (f.0, λ cs s e. f.1 cs (record { starts = s; long = e })) c.start_at.ensures c.start_at-2.ensures c.frequency_of.ensures
