use Rattle.std.proofs.Common.{arith}
use Rattle.words.proofs.Stores.{stored_next, stored_all}
use Rattle.words.proofs.put_row.Goals as goal

pub loop-k-preserved : goal.loop-k-preserved
loop-k-preserved g c = stored_next _ _ _ _ _ c.loop-k.invariant c.put_word.ensures c.requires (omega arith) c.loop-k-test.true

pub returns : goal.returns
returns g c = stored_all _ _ _ _ _ c.loop-k.invariant (omega arith) c.loop-k.auto.k-end c.loop-k-test.false
