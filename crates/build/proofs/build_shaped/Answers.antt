use Rattle.build.proofs.Shaped.{answered_as, refused_entry, answered_entry}
use Rattle.build.proofs.build_shaped.Goals as goal

pub returns-in-Err : goal.returns-in-Err
returns-in-Err c = answered_as c.refuse.ensures (refused_entry _ _ _ _ _ _ _ c.number.ensures c.in-Err.ensures.refused c.requires.1.zeros)

pub returns-in-Ok : goal.returns-in-Ok
returns-in-Ok c = let e = c.in-Ok.ensures in
    answered_entry _ _ _ _ _ _ _ e.accepted.0 e.refused c.build_entered.ensures
