use Rattle.build_answer.proofs.Tables.{cut}
use Rattle.build_answer.proofs.out_layout.Goals as goal

pub returns : goal.returns
returns c = cut _ _ _ _ _ _ _ _ _ c.rows_in-a.ensures c.rows_in-b.ensures c.rows_in-c.ensures c.rows_in-d.ensures
