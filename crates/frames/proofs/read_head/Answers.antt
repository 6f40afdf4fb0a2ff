use Rattle.std.proofs.Common.{rules}
use Rattle.frames.proofs.Reading.{head_no_sheet, head_no_answer, head_none, head_some}
use Rattle.frames.proofs.read_head.Goals as goal

pub returns-in_default : goal.returns-in_default
returns-in_default g c = head_no_sheet _ _ _ _ _ _ (search rules) c.in_ok-n.ensures c.if-n-lt18.false (rw c.in_default.is at c.number.ensures)

pub returns-in_default-number : goal.returns-in_default-number
returns-in_default-number g c = head_no_answer _ _ _ _ _ _ (search rules) c.in_ok-n.ensures c.if-n-lt18.false (rw c.in_default-number.is at c.number-2.ensures)

pub returns-then-not-is_head : goal.returns-then-not-is_head
returns-then-not-is_head g c = head_none _ _ _ _ _ _ (search rules) c.in_ok-n.ensures c.if-n-lt18.false _ _
    (rw c.in-Some.is at c.number.ensures) (rw c.in-Some-number.is at c.number-2.ensures) _ c.is_head.ensures c.if-not-is_head.true

pub returns : goal.returns
returns g c = head_some _ _ _ _ _ _ (search rules) c.in_ok-n.ensures c.if-n-lt18.false _ _
    (rw c.in-Some.is at c.number.ensures) (rw c.in-Some-number.is at c.number-2.ensures) _ c.is_head.ensures c.if-not-is_head.false
