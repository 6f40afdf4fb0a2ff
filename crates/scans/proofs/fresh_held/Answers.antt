use Rattle.scans.proofs.Uses.{fresh_is}
use Rattle.scans.proofs.fresh_held.Goals as goal

pub returns : goal.returns
returns c = fresh_is _
