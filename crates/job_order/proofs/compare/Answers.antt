use Rattle.std.proofs.Common.{sym, ap, subst}
use Rattle.words.specs.Words.{words_of}
use Rattle.sheet_rules.specs.Kinds.{key_number}
use Rattle.definition.specs.declared.Order.TheVariants.{Same}
use Rattle.job_pages.specs.Cursors.{Cursor, cursor_of}
use Rattle.job_pages.specs.Pages.{Shows}
use Rattle.job_order.specs.Orders.{Orders}
use Rattle.job_order.proofs.Steps.{both_over}
use Rattle.job_order.proofs.compare.Goals as goal

pub loop-cur-init : goal.loop-cur-init
loop-cur-init c = let p = c.requires in (
  subst (λ (d : Cursor). Shows c.args.x.now d) (sym c.start-cur.ensures) p.0,
  subst (λ (d : Cursor). Shows c.args.y.now d) (sym c.start-cur.ensures) p.1,
  λ o h.
      subst (λ (d : Cursor). Orders (words_of c.args.x.now) (words_of c.args.y.now) d o) c.start-cur.ensures h,
)

pub loop-cur-preserved : goal.loop-cur-preserved
loop-cur-preserved c = let a = c.in-Ok.ensures in (
  a.first,
  a.second,
  λ o h. c.loop-cur.invariant.2 o (a.answer o h),
)

pub loop-cur-smaller : goal.loop-cur-smaller
loop-cur-smaller c = c.in-Ok.ensures.fewer

pub returns-in-Err : goal.returns-in-Err
returns-in-Err c = c.loop-cur.invariant.2 c.in-Err.o c.in-Err.ensures

pub returns : goal.returns
returns c =
    c.loop-cur.invariant.2 Same
    (both_over (words_of c.args.x.now) (words_of c.args.y.now) (cursor_of c.loop-cur.cur)
    (ap key_number c.in_default.is))
