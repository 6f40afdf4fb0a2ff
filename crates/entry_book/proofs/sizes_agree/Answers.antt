use mathlib.Core.Path.{sym, ◌∙◌}
use Rattle.job_shape.proofs.Tests.{passed, failed}
use Rattle.entry_book.proofs.Sizes.{sized_first, sized_next, sized_not, sized_last}
use Rattle.entry_book.proofs.sizes_agree.Goals as goal

pub loop-i-init : goal.loop-i-init
loop-i-init c = sized_first _ _ _ _ _

pub returns-then-not-size_agrees : goal.returns-then-not-size_agrees
returns-then-not-size_agrees c = sym (c.loop-i.invariant ∙ sized_not _ _ _ _ _ _ c.loop-i-test.true (failed c.if-not-size_agrees.true-raw c.size_agrees.ensures))

pub loop-i-preserved : goal.loop-i-preserved
loop-i-preserved c = c.loop-i.invariant ∙ sized_next _ _ _ _ _ _ c.loop-i-test.true (passed c.if-not-size_agrees.false-raw c.size_agrees.ensures)

pub returns : goal.returns
returns c = sym (c.loop-i.invariant ∙ sized_last _ _ _ _ _ _ c.loop-i-test.false)
