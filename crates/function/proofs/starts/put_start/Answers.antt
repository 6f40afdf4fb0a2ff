use native.Mathlib.Omega.{arith}
use Rattle.function.proofs.Loops.{stored_2}
use Rattle.function.proofs.starts.put_start.Goals as goal

pub returns : goal.returns
returns c = stored_2 _ _ _ _ c.put_word.ensures c.put_word-2.ensures (omega arith)
