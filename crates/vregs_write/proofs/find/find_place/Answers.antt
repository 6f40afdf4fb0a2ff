use Rattle.vregs_write.proofs.Scans.{place_overlap, place_at}
use Rattle.vregs_write.proofs.find.find_place.Goals as goal

pub returns-then-meets : goal.returns-then-meets
returns-then-meets c = place_overlap _ _ _ _ _ _ _ _ _ c.pieces_of-s.ensures.0 c.pieces_of-s.ensures.1 c.ends_by-k.ensures.1 c.meets.ensures c.if-meets.true

pub returns : goal.returns
returns c = place_at _ _ _ _ _ _ _ _ _ c.pieces_of-s.ensures.0 c.pieces_of-s.ensures.1 c.ends_by-k.ensures.1 c.meets.ensures c.if-meets.false
