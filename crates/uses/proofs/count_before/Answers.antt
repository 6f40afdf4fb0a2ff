use mathlib.Core.Path.{◌≡◌, sym, ◌∙◌}
use native.Mathlib.Omega.{arith}
use Rattle.uses.proofs.Scans.{counts_start, counts_next, counts_stop, counts_end}
use Rattle.uses.proofs.count_before.Goals as goal

pub loop-i-init : goal.loop-i-init
loop-i-init c = (counts_start _ _ _ _, omega arith)

pub returns-then-p-word_of : goal.returns-then-p-word_of
returns-then-p-word_of c = (counts_stop _ _ _ _ _ _ c.loop-i.invariant.0 c.loop-i-test.true c.word_of.ensures c.if-p-word_of.true, c.loop-i.invariant.1)

pub loop-i-preserved : goal.loop-i-preserved
loop-i-preserved c = (counts_next _ _ _ _ _ _ c.loop-i.invariant.0 c.loop-i-test.true c.word_of.ensures c.if-p-word_of.false, omega arith)

pub returns : goal.returns
returns c = let e : c.loop-i.i ≡ c.args.uses.now.n = omega arith in
    (sym e ∙ counts_end _ _ _ _ _ c.loop-i.invariant.0 c.loop-i-test.false, omega arith)
