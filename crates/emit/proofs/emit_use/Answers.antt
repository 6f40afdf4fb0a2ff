use Rattle.vreg_weight.proofs.Sums.{scales_small}
use Rattle.emit.proofs.Use.{use_sum}
use Rattle.emit.proofs.emit_use.Goals as goal

pub add_use-total-requires : goal.add_use-total-requires
add_use-total-requires c = let b = c.args.by.now in
    scales_small _ _ _ b.weighable.book b.of_job

pub returns : goal.returns
returns c = let n = c.nearer-near.ensures in
    (c.put_row.ensures, n.0, use_sum _ _ _ _ _ _ _ c.nearer-near.result c.args.by.now.of_job c.row_cost-cost.ensures n c.add_use-total.ensures)
