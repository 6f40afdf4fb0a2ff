use Rattle.std.proofs.Common.{arith}
use Rattle.vregs_write.proofs.Turns.{raise_fits, raise_next, raise_last}
use Rattle.vregs_write.proofs.insert.raise.Goals as goal

pub overflow_add-word_at : goal.overflow_add-word_at
overflow_add-word_at c = omega (arith, c.word_at.ensures, raise_fits c.loop-k.invariant c.loop-k-test.true)

pub loop-k-preserved : goal.loop-k-preserved
loop-k-preserved c = raise_next c.loop-k.invariant c.loop-k-test.true _ _ c.requires.in_table.1 c.word_at.ensures c.put_word.ensures

pub returns : goal.returns
returns c = raise_last c.loop-k.invariant c.loop-k-test.false
