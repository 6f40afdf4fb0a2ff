use native.Mathlib.Omega.{arith}
use Rattle.values.proofs.Members.{fill_start, fill_next, fill_done}
use Rattle.values.proofs.value_sets.Goals as goal

pub loop-k-init : goal.loop-k-init
loop-k-init c = fill_start _ _

pub loop-k-preserved : goal.loop-k-preserved
loop-k-preserved c = fill_next c.loop-k.invariant (omega arith) (omega arith) c.member_at.ensures c.set_in.ensures

pub returns : goal.returns
returns c job e = fill_done c.loop-k.invariant (omega arith) job e
