use Rattle.std.proofs.Common.{arith}
use Rattle.words.proofs.Runs.{copy_first, copy_next, copy_last}
use Rattle.words.proofs.span.copy_words.Goals as goal

pub loop-k-init : goal.loop-k-init
loop-k-init c = copy_first _ _ _ _ _

pub loop-k-preserved : goal.loop-k-preserved
loop-k-preserved c = let p = c.put_word in
    copy_next c.loop-k.invariant (omega arith) (omega arith) (omega arith) c.word_at.ensures p.ensures p.auto.s

pub returns : goal.returns
returns c = copy_last c.loop-k.invariant (omega arith) (omega arith)
