use Rattle.sheet_output.specs.Left.{rows_left}
use Rattle.vregs_answer.proofs.Comparing.{Agreed}
use Rattle.vregs_answer.proofs.replay.same_sheet.Given as goal

abbrev pub invariant-loop-cur : goal.invariant-loop-cur
invariant-loop-cur l = Agreed l.ol l.end l.tables l.answer l.cur l.rest

abbrev pub decreases-loop-cur : goal.decreases-loop-cur
decreases-loop-cur l = rows_left l.ol l.end.registers l.end.groups l.cur
