use Rattle.order_answer.proofs.Verdict.{shelved_passed, shelved_refused}
use Rattle.order_answer.proofs.verdict_on.Goals as goal

pub returns-in-Ok : goal.returns-in-Ok
returns-in-Ok c = let p = c.requires in
    shelved_passed c.args.cur c.args.table.now c.args.written.now _ p.1 p.2 c.in-Ok.field-0 c.in-Ok.ensures

pub returns-in-Err : goal.returns-in-Err
returns-in-Err c = let p = c.requires in
    shelved_refused c.args.cur c.args.table.now c.args.written.now _ p.1 p.2 c.in-Err.r c.in-Err.ensures
