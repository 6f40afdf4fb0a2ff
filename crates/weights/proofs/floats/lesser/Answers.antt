use Rattle.weights.proofs.Nonneg.{min_second, min_first}
use Rattle.weights.proofs.floats.lesser.Goals as goal

-- `floats::lesser` meets its contract. Assumes nothing.

pub returns-then-y-x : goal.returns-then-y-x
returns-then-y-x c = min_second c.args.x c.args.y c.if-y-x.true

pub returns-else-y-x : goal.returns-else-y-x
returns-else-y-x c = min_first c.args.x c.args.y c.if-y-x.false
