use Rattle.cut_moves.proofs.Rows.{put_none, put_one, tag_way}
use Rattle.cut_moves.proofs.put_move.Goals as goal

pub returns-then-steps-eq0 : goal.returns-then-steps-eq0
returns-then-steps-eq0 c = put_none _ _ _ _ _ c.if-steps-eq0.true

pub returns : goal.returns
returns c = put_one _ _ _ _ _ _ _ c.if-steps-eq0.false (tag_way _ _ _ c.way_of.ensures) c.put_row.ensures
