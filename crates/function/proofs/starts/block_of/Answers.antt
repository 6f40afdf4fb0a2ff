use native.Mathlib.Omega.{arith}
use Rattle.function.proofs.Loops.{find_first, find_last}
use Rattle.function.proofs.starts.block_of.Goals as goal

pub loop-high-init : goal.loop-high-init
loop-high-init c = find_first _ _ _ _ c.requires

pub returns : goal.returns
returns c = (omega arith, λ bs e. find_last c.loop-high.invariant c.loop-high-test.false bs e.starts e.long)
