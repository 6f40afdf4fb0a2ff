use native.Mathlib.Omega.{arith}
use Rattle.set_part.proofs.Walk.{walk_start, walk_next, walk_stop, walk_end}
use Rattle.set_part.proofs.Past.{past_is}
use Rattle.set_part.proofs.cuts.first_past.Goals as goal

pub loop-i-init : goal.loop-i-init
loop-i-init c = walk_start

pub returns-then-q-word_at : goal.returns-then-q-word_at
returns-then-q-word_at c =
    (past_is _ _ _ _ (omega arith) _ (walk_stop c.loop-i.invariant (omega arith) (omega arith) (omega arith)), omega arith, omega arith)

pub loop-i-preserved : goal.loop-i-preserved
loop-i-preserved c = walk_next c.loop-i.invariant (omega arith)

pub returns : goal.returns
returns c =
    (past_is _ _ _ _ (omega arith) _ (walk_end c.loop-i.invariant (omega arith) (omega arith) (omega arith)), omega arith, omega arith)
