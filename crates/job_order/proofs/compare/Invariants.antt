use Rattle.words.specs.Words.{words_of}
use Rattle.definition.specs.declared.Order.{Order}
use Rattle.job_pages.specs.Cursors.{cursor_of, at_start, steps_left}
use Rattle.job_pages.specs.Pages.{Shows}
use Rattle.job_order.specs.Orders.{Orders}
use Rattle.job_order.proofs.compare.Given as goal

abbrev pub invariant-loop-cur : goal.invariant-loop-cur
invariant-loop-cur l = Shows l.x (cursor_of l.cur) × Shows l.y (cursor_of l.cur)
    × ((o : Order) → Orders (words_of l.x) (words_of l.y) (cursor_of l.cur) o
    → Orders (words_of l.x) (words_of l.y) at_start o)

abbrev pub decreases-loop-cur : goal.decreases-loop-cur
decreases-loop-cur l = steps_left (cursor_of l.cur)
