use Rattle.set_runs.proofs.Segments.{top_is}
use Rattle.set_runs.proofs.top_at.Goals as goal

pub returns : goal.returns
returns c = top_is _ _ _ _ _ _ c.seg_at-s.ensures c.bank_of.ensures c.top_of.ensures
