use mathlib.Core.Path.{◌∙◌}
use borrow.Author.Tests.{not-false}
use Rattle.vregs_answer.proofs.Comparing.{agreed_start, agreed_next, agreed_differs, agreed_all}
use Rattle.vregs_answer.proofs.replay.same_sheet.Goals as goal

pub loop-cur-init : goal.loop-cur-init
loop-cur-init c = agreed_start _ _ _ _ _ c.requires.0 c.vregs_tables-ol.ensures c.start-cur.ensures

pub loop-cur-preserved : goal.loop-cur-preserved
loop-cur-preserved c = let e = c.in-Some.ensures.cases in
    agreed_next _ _ _ _ _ _ _ _ c.loop-cur.invariant c.page-page.ensures _ e.0 e.1

pub returns-in_default : goal.returns-in_default
returns-in_default c = agreed_differs _ _ _ _ _ _ _ _ c.loop-cur.invariant c.page-page.ensures c.in_default.ensures.cases

pub returns : goal.returns
returns c = λ o g. c.is_empty.ensures ∙ agreed_all _ _ _ _ _ _ c.loop-cur.invariant (not-false _ c.loop-cur-test.false) o g
