use Rattle.values.proofs.Values.{set_of_lem}
use Rattle.values.proofs.set_for_value.Goals as goal

pub returns : goal.returns
returns c job e = set_of_lem _ _ _ _ _ c.set_in.ensures job e
