use Rattle.virt_regs.proofs.Bytes.{segments_part}
use Rattle.virt_regs.proofs.segments.Goals as goal

pub returns : goal.returns
returns c = let p = c.pieces_of-s.ensures in
    let a = c.args in
    rw c.seg_base.ensures (segments_part a.out.now a.ol a.v _ _ p.0 p.1)
