use Rattle.split_placement.proofs.Chosen.{judges_early, judges_late}
use Rattle.split_placement.proofs.judging.Goals as goal

pub returns-in-Early : goal.returns-in-Early
returns-in-Early c = let r = c.block_of.ensures in
    (r.0, judges_early _ _ _ _ c.in-Early.is r.1)

pub returns-in-Late : goal.returns-in-Late
returns-in-Late c = let r = c.block_of-in-Late.ensures in
    (r.0, judges_late _ _ _ _ c.in-Late.is r.1)
