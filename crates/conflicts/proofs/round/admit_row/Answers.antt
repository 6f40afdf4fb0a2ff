use Rattle.conflicts.proofs.Trying.{admit_is}
use Rattle.conflicts.proofs.round.admit_row.Goals as goal

pub returns : goal.returns
returns c st hs = admit_is _ _ _ _ _ _ _ _ _ _ _ c.requires.0 c.requires.4 c.requires.3 c.turned_use-u.ensures (λ b. c.admit.ensures st hs b)
