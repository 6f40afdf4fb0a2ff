use Rattle.placing.proofs.Arms.{weighed_merged}
use Rattle.placing.proofs.finish.weigh.Goals as goal

pub returns-in-Merge : goal.returns-in-Merge
returns-in-Merge c = let s = c.pieces_of-s.ensures in
    λ O m n st ps x t. weighed_merged _ _ _ O m n st ps _ _ _ _ _ _ _ c.in-Merge.is _ _ s.0 s.1 c.weight_of_pieces.ensures x
