use Rattle.set_part.proofs.MarkRead.{head_within}
use native.Mathlib.Omega.{arith}
use Rattle.set_part.proofs.mark.turned_at.Goals as goal

pub marked_use-head-requires : goal.marked_use-head-requires
marked_use-head-requires c = let pre = c.requires in
    let h = head_within _ _ _ _ _ _ pre.0 (omega arith) pre.1 c.holder_of.ensures.0 c.part_seg-row.ensures in
    (h, omega (arith, pre.2))
