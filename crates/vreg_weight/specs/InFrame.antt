-- That what a weight is made from stands in the job and the work slice, of the frame. Weighed has it of bytes and a
-- layout. Assumes nothing.
use Rattle.std.specs.Prelude.{ℕ, List}
use Rattle.frame.specs.declared.lent.Frame.{Frame}
use Rattle.vreg_weight.specs.Weighed as weighed

-- what a weight is made from stands there
abbrev pub Weighable : Frame → List ℕ → Type 0
Weighable fr work = weighed.Weighable fr.job.bytes.now fr.job.lay work fr.wl.starts
