use Rattle.order_answer.proofs.Finish.{ordered_put}
use Rattle.order_answer.proofs.run.order.Goals as goal

pub returns : goal.returns
returns g c =
    ordered_put _ _ _ _ _ _ _ c.in-Ok.ensures c.in-Ok-read_job.ensures _ c.answer-r.ensures _ _ _ c.or.ensures
    c.put.ensures
