use Rattle.std.proofs.Common.{arith}
use Rattle.order_answer.proofs.memory.read_job.Goals as goal

pub verdict_on-requires : goal.verdict_on-requires
verdict_on-requires c = let p = c.requires in
    let f = c.feed_sheet-cur in (f.ensures.streamed, omega (arith, p.0, f.auto), omega (arith, p.1, f.auto), p.2)

pub returns : goal.returns
returns c = c.verdict_on.ensures _ c.feed_sheet-cur.ensures.leads
