use mathlib.Core.Path.{sym, ◌∙◌}
use native.Mathlib.Omega.{arith}
use Rattle.job_pages.specs.Cursors.{some_key, none_key}
use Rattle.convert.proofs.Comparing.{agreed_start, agreed_next, agreed_differs, agreed_all}
use Rattle.convert.proofs.memory.same_sheet.Goals as goal

pub loop-cur-init : goal.loop-cur-init
loop-cur-init c = agreed_start _ _ _ _ c.requires.0 c.start-cur.ensures

pub loop-cur-preserved : goal.loop-cur-preserved
loop-cur-preserved c = let e = c.in-Some.ensures.cases in
    agreed_next _ _ _ _ _ _ _ c.loop-cur.invariant c.fill-page.ensures _ e.0 e.1

pub loop-cur-smaller : goal.loop-cur-smaller
loop-cur-smaller c = let h = c.requires.1 in
    c.fill-page.ensures.fewer (some_key _ (sym c.is_some.ensures ∙ c.loop-cur-test.true))
    (omega (arith, c.fill-page.auto, h))

pub returns-in_default : goal.returns-in_default
returns-in_default c = agreed_differs _ _ _ _ _ _ _ c.loop-cur.invariant c.fill-page.ensures c.in_default.ensures.cases

pub returns : goal.returns
returns c = λ job rs l. c.is_empty.ensures ∙ agreed_all _ _ _ _ _ c.loop-cur.invariant
    (none_key _ (sym c.is_some.ensures ∙ c.loop-cur-test.false)) job rs l
