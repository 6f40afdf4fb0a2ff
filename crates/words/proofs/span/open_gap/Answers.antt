use Rattle.std.proofs.Common.{arith}
use Rattle.words.proofs.Moves.{opened}
use Rattle.words.proofs.span.open_gap.Goals as goal

pub returns : goal.returns
returns c = opened _ _ _ _ _ (omega arith) (omega arith) c.copy_within.ensures.after
