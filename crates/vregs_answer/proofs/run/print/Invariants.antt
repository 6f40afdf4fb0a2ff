use mathlib.Core.Path.{◌≡◌}
use lib.ListN.{length}
use Rattle.sheet_output.specs.Left.{rows_left}
use Rattle.vregs_answer.proofs.Pages.{Showing}
use Rattle.vregs_answer.proofs.run.print.Given as goal

abbrev pub invariant-loop-cur : goal.invariant-loop-cur
invariant-loop-cur g l = (length l.paper ≡ length l.initial.paper) × (length l.buf ≡ length l.initial.buf)
    × Showing l.ol l.end l.tables l.tape l.initial.paper l.initial.s l.s l.cur l.paper

abbrev pub decreases-loop-cur : goal.decreases-loop-cur
decreases-loop-cur g l = rows_left l.ol l.end.registers l.end.groups l.cur
