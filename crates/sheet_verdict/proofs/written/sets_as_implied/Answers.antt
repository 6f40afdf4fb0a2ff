use native.Mathlib.Omega.{arith}
use Rattle.sheet_verdict.proofs.Sets.{sets_start, sets_stop, sets_next}
use Rattle.sheet_verdict.proofs.written.sets_as_implied.Goals as goal

pub loop-j-init : goal.loop-j-init
loop-j-init c = sets_start c.args.written.now.words.now _ _ (omega arith)

pub returns-then-word_at-leader : goal.returns-then-word_at-leader
returns-then-word_at-leader c = sets_stop c.loop-j.invariant (omega arith) _ c.seg_at-s.ensures _ (rw c.values-values.ensures.0 at c.set_for_value-set.ensures)
    _ c.word_at.ensures c.if-word_at-leader.true

pub loop-j-preserved : goal.loop-j-preserved
loop-j-preserved c = sets_next c.loop-j.invariant (omega arith) _ c.seg_at-s.ensures _ (rw c.values-values.ensures.0 at c.set_for_value-set.ensures)
    _ c.word_at.ensures c.if-word_at-leader.false
