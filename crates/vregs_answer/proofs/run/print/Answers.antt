use mathlib.Core.Path.{refl}
use Rattle.vregs_answer.proofs.Starts.{begun}
use Rattle.vregs_answer.proofs.Pages.{showing_start, showing_next, showing_failed, showing_end}
use borrow.Author.Tests.{not-false}
use borrow.Author.Rules.{rules}
use Rattle.std.proofs.lemmas.Result.{err_from_is_err_and}
use Rattle.vregs_answer.proofs.run.print.Goals as goal

pub loop-cur-init : goal.loop-cur-init
loop-cur-init g c = let p = c.requires in
    let e = c.vregs_tables-ol.ensures in
    let d = c.start-cur.ensures in
    (refl, refl, showing_start _ _ _ _ _ _ _ (begun _ _ _ _ p.0 e d) e d p.2)

pub returns-in_err-write_all : goal.returns-in_err-write_all
returns-in_err-write_all g c = let p = err_from_is_err_and c.from_residual.result c.from_residual.ensures.1 in
    rw p.1 (showing_failed _ _ _ _ _ _ _ _ _ _ _ _ _ _ c.loop-cur.invariant.2 c.page-page.ensures
    c.in_err-write_all.ensures refl)

pub loop-cur-preserved : goal.loop-cur-preserved
loop-cur-preserved g c = (
  search rules,
  search rules,
  showing_next _ _ _ _ _ _ _ _ _ _ _ _ _ _ c.loop-cur.invariant.2 c.page-page.ensures c.in_ok-write_all.ensures refl,
)

pub returns : goal.returns
returns g c = showing_end _ _ _ _ _ _ _ _ _ c.loop-cur.invariant.2 (not-false _ c.loop-cur-test.false)
