use Rattle.std.proofs.Common.{arith}
use Rattle.vregs_write.proofs.Loops.{spread_row, spread_next, spread_last}
use Rattle.vregs_write.proofs.change.spread.Goals as goal

pub set_at_place-requires : goal.set_at_place-requires
set_at_place-requires c = omega (arith, spread_row _ c.loop-i.invariant c.requires.1 c.loop-i-test.true (omega (arith, c.group_size-i-end.ensures, c.requires.1.size)) c.member_at-m.ensures)

pub loop-i-preserved : goal.loop-i-preserved
loop-i-preserved c =
    spread_next _ c.loop-i.invariant c.loop-i-test.true (spread_row _ c.loop-i.invariant c.requires.1 c.loop-i-test.true (omega (arith, c.group_size-i-end.ensures, c.requires.1.size)) c.member_at-m.ensures) c.member_at-m.ensures c.set_at_place.ensures

pub returns : goal.returns
returns c = spread_last c.loop-i.invariant c.loop-i-test.false c.group_size-i-end.ensures
