use Rattle.conflicts.proofs.Reading.{first_is}
use Rattle.conflicts.proofs.first_at.Goals as goal

pub returns : goal.returns
returns c = first_is _ _ _ _ _ _ _ _ c.word_at.ensures c.turned_use.ensures c.param_at.ensures
