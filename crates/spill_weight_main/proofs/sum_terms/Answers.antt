use native.Mathlib.Omega.{arith}
use Rattle.spill_weight_main.proofs.Terms.{start, next, done}
use Rattle.spill_weight_main.proofs.sum_terms.Goals as goal

pub loop-i-init : goal.loop-i-init
loop-i-init c = start _ c.zero-sum.ensures

pub cost_at-requires : goal.cost_at-requires
cost_at-requires c = omega arith

pub add_term-sum-requires : goal.add_term-sum-requires
add_term-sum-requires c = (c.cost_at.ensures.1, omega arith)

pub loop-i-preserved : goal.loop-i-preserved
loop-i-preserved c = next c.loop-i.invariant (omega arith) c.cost_at.ensures.0 c.add_term-sum.ensures

pub returns : goal.returns
returns c = done c.loop-i.invariant (omega arith)
