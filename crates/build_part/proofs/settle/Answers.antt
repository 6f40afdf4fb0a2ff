use Rattle.build_part.proofs.Turned.{settled_whole, settled_turn, settled_cut, settled_halt}
use Rattle.build_part.proofs.settle.Goals as goal

pub returns-in-Whole : goal.returns-in-Whole
returns-in-Whole c a h = settled_whole a h _ c.in-Whole.is

pub returns-in-Turn : goal.returns-in-Turn
returns-in-Turn c a h = settled_turn a h _ _ c.in-Turn.is

pub returns-in-Cut : goal.returns-in-Cut
returns-in-Cut c a h = settled_cut a h _ _ c.in-Cut.is

pub returns-in-Halt : goal.returns-in-Halt
returns-in-Halt c a h = settled_halt a h _ _ c.in-Halt.is
