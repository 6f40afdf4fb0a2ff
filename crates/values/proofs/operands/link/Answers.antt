use Rattle.values.proofs.operands.link.Goals as goal

pub returns : goal.returns
returns c = cc
