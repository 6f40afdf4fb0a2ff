use native.Mathlib.Omega.{arith}
use Rattle.sheet_verdict.proofs.Firsts.{firsts_start, firsts_stop, firsts_next, firsts_few}
use Rattle.sheet_verdict.proofs.written.firsts_as_implied.Goals as goal

pub loop-i-init : goal.loop-i-init
loop-i-init c = firsts_start c.args.written.now.words.now _ _ (omega arith)

pub returns-then-word_at-first : goal.returns-then-word_at-first
returns-then-word_at-first c = firsts_stop c.loop-i.invariant (omega arith) _ c.word_at.ensures c.if-word_at-first.true

pub overflow_add-first : goal.overflow_add-first
overflow_add-first c = omega (arith, firsts_few c.loop-i.invariant (omega arith) _ (rw (c.blocks-blocks.ensures.0, c.blocks-blocks.ensures.1) at c.count_at-first.ensures))

pub loop-i-preserved : goal.loop-i-preserved
loop-i-preserved c = firsts_next c.loop-i.invariant (omega arith) _ c.word_at.ensures c.if-word_at-first.false _ (rw (c.blocks-blocks.ensures.0, c.blocks-blocks.ensures.1) at c.count_at-first.ensures)
