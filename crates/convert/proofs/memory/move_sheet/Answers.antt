use mathlib.Core.Path.{sym, ◌∙◌}
use native.Mathlib.Omega.{arith}
use Rattle.job_pages.specs.Cursors.{some_key, none_key}
use Rattle.convert.proofs.Ways.{answered_refused, no_room, answered_moved}
use Rattle.convert.proofs.memory.move_sheet.Goals as goal

pub returns-in-Err : goal.returns-in-Err
returns-in-Err c = let p = c.requires in
    answered_refused _ _ _ _ _ _ _ _ c.in-Err.ensures c.number.ensures c.put_refused-n.ensures
    (omega (arith, p, c.put_refused-n.auto))

pub returns-then-is_some : goal.returns-then-is_some
returns-then-is_some c = no_room _ _ _ _ _ _ c.start.ensures c.in_default.ensures c.fill-page.ensures
    (some_key _ (sym c.is_some.ensures ∙ c.if-is_some.true))

pub returns : goal.returns
returns c = answered_moved _ _ _ _ _ _ c.start.ensures c.in_default.ensures c.fill-page.ensures
    (none_key _ (sym c.is_some.ensures ∙ c.if-is_some.false))
