use Rattle.lines.proofs.Puts.{index_none, index_some}
use native.Mathlib.Omega.{arith}
use mathlib.Core.Path.{refl}
use Rattle.lines.proofs.put_index.Goals as goal

pub returns-in-None : goal.returns-in-None
returns-in-None c = index_none _ (c.in-None.ensures) c.put_bytes.ensures (omega arith) refl

pub returns-in-Some : goal.returns-in-Some
returns-in-Some c = index_some _ _ (c.in-Some.ensures) c.put_field.ensures
