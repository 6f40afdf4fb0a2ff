use mathlib.Core.Path.{refl}
use Rattle.sheet_verdict.proofs.From.{taking_start, taking_next, taking_failed, taking_end, taking_out, taken_from}
use borrow.Author.Rules.{rules}
use Rattle.sheet_verdict.proofs.input.feed_all.Goals as goal

pub loop-init : goal.loop-init
loop-init g c = taking_start _ _ _ _ (search rules)

pub returns-in_default : goal.returns-in_default
returns-in_default g c = taken_from _ _ _ _ _ _ _ _ c.open-cur.ensures
    (taking_failed _ _ _ _ _ _ _ _ _ c.loop.invariant _ c.in_default.ensures refl)

pub returns-then-ended : goal.returns-then-ended
returns-then-ended g c = taken_from _ _ _ _ _ _ _ _ c.open-cur.ensures
    (taking_end _ _ _ _ _ _ _ _ _ c.loop.invariant (rw (c.in-Ok.is, c.if-ended.true) at c.read.ensures) (search rules))

pub loop-preserved : goal.loop-preserved
loop-preserved g c = taking_next _ _ _ _ _ _ _ _ _ c.loop.invariant _ _ c.in-Ok.ensures (λ i. search rules) c.feed-cur.ensures

pub returns : goal.returns
returns g c = taken_from _ _ _ _ _ _ _ _ c.open-cur.ensures (taking_out _ _ _ _ _ _ _ c.loop.invariant (search rules))
