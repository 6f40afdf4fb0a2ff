use Rattle.vregs_answer.specs.Laws.{cleared_long, answers_refused, answers_built}
use Rattle.vregs_answer.proofs.answer_table.Goals as goal

pub returns-in-Err : goal.returns-in-Err
returns-in-Err c = answers_refused _ _ _ _ _ _ c.in-Err.ensures _ c.number.ensures _ c.refuse.ensures _
    c.clear.ensures.zeroed

pub returns-in-Ok : goal.returns-in-Ok
returns-in-Ok c = answers_built _ _ _ _ _ _ c.in-Ok.ensures _
    (cleared_long _ _ c.clear.ensures.zeroed) _ c.vregs_tables.ensures _ _ c.build_entered.ensures
