use Rattle.std.proofs.Common.{arith}
use Rattle.order_answer.proofs.Starts.{told}
use Rattle.order_answer.proofs.run.read_job.Goals as goal

pub returns : goal.returns
returns g c = let p = c.requires in
    told _ _ _ _ _ _ _ _ _ _ p.2 p.3 (omega (arith, p.2, c.feed_all.auto)) c.in-Ok.ensures c.verdict_on.ensures
