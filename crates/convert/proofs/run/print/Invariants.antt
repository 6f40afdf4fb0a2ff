use mathlib.Core.Path.{◌≡◌}
use lib.ListN.{length}
use Rattle.job_pages.specs.Cursors.{cursor_of, steps_left}
use Rattle.convert.proofs.Pages.{Showing}
use Rattle.convert.proofs.run.print.Given as goal

abbrev pub invariant-loop-cur : goal.invariant-loop-cur
invariant-loop-cur g l = (length l.paper ≡ length l.initial.paper) × (length l.buf ≡ length l.initial.buf)
    × Showing l.second l.table l.tape l.initial.paper l.initial.s l.s (cursor_of l.cur) l.paper

abbrev pub decreases-loop-cur : goal.decreases-loop-cur
decreases-loop-cur g l = steps_left (cursor_of l.cur)
