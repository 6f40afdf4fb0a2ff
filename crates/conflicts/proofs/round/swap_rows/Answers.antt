use Rattle.conflicts.proofs.Swap.{swapped}
use Rattle.conflicts.proofs.round.swap_rows.Goals as goal

pub returns : goal.returns
returns c = swapped _ _ _ _ _ _ _ _ c.row_words-x.ensures c.row_words-y.ensures c.put_row.ensures c.put_row-2.ensures
