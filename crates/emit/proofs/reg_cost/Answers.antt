use Rattle.emit.proofs.Use.{cost_reg}
use Rattle.emit.proofs.reg_cost.Goals as goal

pub returns : goal.returns
returns c = cost_reg _ _ _ _ c.in_memory.ensures c.fixed_cost.ensures
