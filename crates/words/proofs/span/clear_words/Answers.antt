use Rattle.words.proofs.Moves.{cleared}
use Rattle.words.proofs.span.clear_words.Goals as goal

pub returns : goal.returns
returns c = cleared _ _ _ _ c.requires c.clear.ensures.zeroed
