use mathlib.Core.Path.{sym, ◌∙◌}
use Rattle.job_shape.proofs.Rising.{rise_first, rise_next, rise_not, rise_last}
use Rattle.job_shape.proofs.counts_rise.Goals as goal

pub loop-i-init : goal.loop-i-init
loop-i-init c = rise_first _ _

pub returns-then-next-last : goal.returns-then-next-last
returns-then-next-last c = sym (c.loop-i.invariant ∙ rise_not _ c.args.job.now.lay _ _ _ c.loop-i-test.true c.count-next.ensures.0 c.if-next-last.true)

pub loop-i-preserved : goal.loop-i-preserved
loop-i-preserved c = c.loop-i.invariant ∙ rise_next _ c.args.job.now.lay _ _ _ c.loop-i-test.true c.count-next.ensures.0 c.if-next-last.false

pub returns : goal.returns
returns c = sym (c.loop-i.invariant ∙ rise_last _ c.args.job.now.lay _ _ c.loop-i-test.false)
