use Rattle.std.proofs.Common.{rules}
use Rattle.frames.proofs.Reading.{frame_whole}
use Rattle.frames.proofs.read_frame.Goals as goal

pub returns : goal.returns
returns g c = frame_whole _ _ _ _ _ c.in_ok-f.ensures _ _ _ (search rules) c.in_ok-n.ensures (search rules) _ _ _ (search rules) c.in_ok-m.ensures _ _ (search rules)
