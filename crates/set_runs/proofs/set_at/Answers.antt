use Rattle.set_runs.proofs.Segments.{set_is}
use Rattle.set_runs.proofs.set_at.Goals as goal

pub returns : goal.returns
returns c = set_is _ _ _ _ _ c.seg_at-s.ensures (rw c.values.ensures.0 at c.set_for_value.ensures)
