use Rattle.entry_uses.proofs.KindTests.{found_below, group_at, group_none}
use Rattle.entry_uses.proofs.kind.group_use_ok.Goals as goal

pub operand_fits-requires : goal.operand_fits-requires
operand_fits-requires c = found_below _ _ _ _ _ _ c.args.indexed.now.ready c.args.v _ _ c.args.class c.args.index _ c.find_operand.ensures _ c.in-Some.is

pub returns-in-Some : goal.returns-in-Some
returns-in-Some c = group_at _ _ _ _ _ _ c.args.indexed.now.ready _ _ _ _ _ _ c.find_operand.ensures _ c.in-Some.is _ c.operand_fits.ensures

pub returns-in-None : goal.returns-in-None
returns-in-None c = group_none _ _ _ _ _ _ c.args.indexed.now.ready _ _ _ _ _ _ c.find_operand.ensures c.in-None.is
