use Rattle.constraints.proofs.Operand.{found_known, said_found, said_nothing}
use Rattle.constraints.proofs.find_group.Goals as goal

pub returns-in_err-k : goal.returns-in_err-k
returns-in_err-k c b = absurd (said_nothing _ c.args.fr.now.job.lay c.args.p _ _ c.find_operand.ensures c.in_err-k.was b)

pub operand_group-requires : goal.operand_group-requires
operand_group-requires c = (c.requires, found_known _ c.args.fr.now.job.lay c.args.p _ _ _ c.find_operand.ensures c.in_ok-k.was)

pub returns : goal.returns
returns c b = said_found _ c.args.fr.now.job.lay c.args.p _ _ c.args.fr.now.wl _ _ _ c.requires.single c.find_operand.ensures c.in_ok-k.was c.operand_group.ensures
