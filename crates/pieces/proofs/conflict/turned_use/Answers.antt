use Rattle.pieces.proofs.ConflictRows.{use_read}
use Rattle.pieces.proofs.conflict.turned_use.Goals as goal

pub returns : goal.returns
returns c = use_read _ _ _ _ _ _ _ c.word_at-n.ensures c.use_at.ensures
