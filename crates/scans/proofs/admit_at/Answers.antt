use Rattle.scans.proofs.Uses.{admit_marked}
use Rattle.scans.proofs.admit_at.Goals as goal

pub returns : goal.returns
returns c st hs = admit_marked _ _ _ c.args.fr.now.job.lay _ _ _ _ _ _ c.marked_use-u.ensures (c.requires.0.backed c.requires.3 _ c.requires.2) (c.admit.ensures st hs)
