use mathlib.Core.Path.{◌∙◌}
use Rattle.vreg_weight.proofs.Sums.{options_are, adjust_small}
use Rattle.vreg_weight.proofs.Pieces.{weight_is}
use Rattle.vreg_weight.proofs.weight_of_pieces.Goals as goal

pub invariant_of-by : goal.invariant_of-by
invariant_of-by c = record { weighable = c.requires.0; of_job = c.options_at-options.ensures ∙ options_are _ _ }

pub weight-w-requires : goal.weight-w-requires
weight-w-requires c = let i = c.count_insts-insts.ensures in
    (i.0, i.1, adjust_small _ _ _ c.requires.0.book c.options_at-options.ensures)

pub returns : goal.returns
returns c = let b = c.bits_of-value.ensures in
    weight_is _ _ _ _ _ _ _ _ _ _ _ _ c.sum_pieces-sum.ensures (rw c.seg_base.ensures at c.count_insts-insts.ensures.2) (c.options_at-options.ensures ∙ options_are _ _) c.class_data-data.ensures.0 c.weight-w.ensures.0 b.0 b.1
