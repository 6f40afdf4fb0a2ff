use Rattle.vregs_answer.proofs.Replaying.{found_some}
use Rattle.vregs_answer.proofs.report.next_answer.Goals as goal

pub slice_bounds-is_answer-end : goal.slice_bounds-is_answer-end
slice_bounds-is_answer-end g c = c.in_ok-f.ensures.sheet.0

pub slice_bounds-is_answer-end-2 : goal.slice_bounds-is_answer-end-2
slice_bounds-is_answer-end-2 g c = c.in_ok-f.ensures.sheet.1

pub slice_bounds-is_answer-end-3 : goal.slice_bounds-is_answer-end-3
slice_bounds-is_answer-end-3 g c = c.in_ok-f.ensures.answer.0

pub slice_bounds-is_answer-end-4 : goal.slice_bounds-is_answer-end-4
slice_bounds-is_answer-end-4 g c = c.in_ok-f.ensures.answer.1

pub returns : goal.returns
returns g c = found_some _ _ _ _ _ _ _ _ c.in_ok-f.ensures c.is_answer-same.ensures
