use Rattle.job_pages.specs.Cursors.{cursor_of, steps_left}
use Rattle.convert.proofs.Comparing.{Agreed}
use Rattle.convert.proofs.memory.same_sheet.Given as goal

abbrev pub invariant-loop-cur : goal.invariant-loop-cur
invariant-loop-cur l = Agreed l.second l.table l.answer (cursor_of l.cur) l.rest

abbrev pub decreases-loop-cur : goal.decreases-loop-cur
decreases-loop-cur l = steps_left (cursor_of l.cur)
