use Rattle.sheet_output.proofs.Words.{register_is}
use Rattle.sheet_output.proofs.register_row.Goals as goal

pub returns : goal.returns
returns c = register_is _ _ _ c.row.ensures
