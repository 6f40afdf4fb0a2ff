use Rattle.std.proofs.Common.{arith}
use Rattle.vregs_write.proofs.Turns.{lift_uses, lift_firsts, lift_count, lifted_of}
use Rattle.vregs_write.proofs.insert.lift.Goals as goal

pub raise-requires : goal.raise-requires
raise-requires c = let a = c.requires.1 in
    record { in_table = (omega (arith, a.segs), omega arith, omega arith); no_overflow = rw c.seg_base.ensures (lift_uses _ _ _ _ _ _ _ a) }

pub raise-requires-2 : goal.raise-requires-2
raise-requires-2 c = let a = c.requires.1 in
    record { in_table = (omega (arith, a.here, a.regs), omega arith, omega arith); no_overflow = lift_firsts _ _ _ _ _ _ _ a _ (rw c.seg_base.ensures at c.raise.ensures) }

pub grow_register-requires : goal.grow_register-requires
grow_register-requires c = let a = c.requires.1 in
    (omega (arith, a.here, a.regs), lift_count _ _ _ _ _ _ _ a _ (rw c.seg_base.ensures at c.raise.ensures) _ _ c.raise-2.ensures)

pub returns : goal.returns
returns c = lifted_of _ _ _ _ _ _ _ _ _ _ _ (rw c.seg_base.ensures at c.raise.ensures) c.raise-2.ensures c.grow_register.ensures
