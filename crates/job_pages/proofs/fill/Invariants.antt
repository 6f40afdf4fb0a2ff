use Rattle.job_pages.specs.Cursors.{cursor_of, steps_left}
use Rattle.job_pages.proofs.Fills.{Filling}
use Rattle.job_pages.proofs.fill.Given as goal

abbrev pub invariant-loop-page : goal.invariant-loop-page
invariant-loop-page l = Filling l.second l.table (cursor_of l.initial.page.cur) (cursor_of l.page.cur) l.page.n l.buf

abbrev pub decreases-loop-page : goal.decreases-loop-page
decreases-loop-page l = steps_left (cursor_of l.page.cur)
