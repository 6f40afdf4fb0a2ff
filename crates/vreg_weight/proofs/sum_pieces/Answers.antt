use Rattle.vreg_weight.proofs.Pieces.{pieces_next, pieces_end}
use Rattle.vreg_weight.proofs.sum_pieces.Goals as goal

pub loop-i-preserved : goal.loop-i-preserved
loop-i-preserved c = pieces_next _ _ _ _ _ _ _ _ c.loop-i-test.true c.loop-i.invariant c.sum_piece-sum.ensures

pub returns : goal.returns
returns c = pieces_end _ _ _ _ _ _ _ c.loop-i-test.false c.loop-i.invariant
