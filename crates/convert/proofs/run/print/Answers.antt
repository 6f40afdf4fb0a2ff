use mathlib.Core.Path.{refl, sym, ◌∙◌}
use native.Mathlib.Omega.{arith}
use Rattle.convert.proofs.Pages.{showing_next, showing_failed, showing_end}
use Rattle.job_pages.specs.Cursors.{some_key, none_key}
use borrow.Author.Rules.{rules}
use Rattle.std.proofs.lemmas.Result.{err_from_is_err_and}
use Rattle.convert.proofs.run.print.Goals as goal

pub returns-in_err-write_all : goal.returns-in_err-write_all
returns-in_err-write_all g c = let p = err_from_is_err_and c.from_residual.result c.from_residual.ensures.1 in
    rw p.1 (showing_failed _ _ _ _ _ _ _ _ _ _ _ _ _ c.loop-cur.invariant.2 c.fill-page.ensures
    c.in_err-write_all.ensures refl)

pub loop-cur-smaller : goal.loop-cur-smaller
loop-cur-smaller g c = let h = c.requires.1 in
    c.fill-page.ensures.fewer (some_key _ (sym c.is_some.ensures ∙ c.loop-cur-test.true))
    (omega (arith, c.fill-page.auto, c.loop-cur.invariant.1, h))

pub loop-cur-preserved : goal.loop-cur-preserved
loop-cur-preserved g c = (
  search rules,
  search rules,
  showing_next _ _ _ _ _ _ _ _ _ _ _ _ _ c.loop-cur.invariant.2 c.fill-page.ensures c.in_ok-write_all.ensures refl,
)

pub returns : goal.returns
returns g c = showing_end _ _ _ _ _ _ _ _ c.loop-cur.invariant.2
    (none_key _ (sym c.is_some.ensures ∙ c.loop-cur-test.false))
