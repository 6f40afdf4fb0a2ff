use Rattle.constraints.proofs.Operand.{past_none}
use Rattle.constraints.proofs.find_operand.Goals as goal

pub returns-then-chains-p : goal.returns-then-chains-p
returns-then-chains-p c = past_none _ c.args.fr.now.job.lay _ _ _ c.requires.under (rw c.chains_in-chains.ensures at c.if-chains-p.true)
