use Rattle.entry_function.proofs.Tests.{operand_inst, operand_slot, operand_group, operand_class, operand_by}
use Rattle.entry_function.proofs.operand_ok.Goals as goal

pub returns-then-counted-o : goal.returns-then-counted-o
returns-then-counted-o c = operand_inst _ _ _ _ _ c.operand_at-o.ensures c.args.counted.now.counted c.if-counted-o.true

pub returns-then-o-ge65536 : goal.returns-then-o-ge65536
returns-then-o-ge65536 c = operand_slot _ _ _ _ _ c.operand_at-o.ensures c.args.counted.now.counted c.if-counted-o.false c.if-o-ge65536.true

pub returns-then-groups-group : goal.returns-then-groups-group
returns-then-groups-group c = operand_group _ _ _ _ _ c.operand_at-o.ensures c.args.counted.now.counted c.if-counted-o.false c.if-o-ge65536.false c.if-groups-group.true

pub returns-then-classes-class : goal.returns-then-classes-class
returns-then-classes-class c = operand_class _ _ _ _ _ c.operand_at-o.ensures c.args.counted.now.counted c.if-counted-o.false c.if-o-ge65536.false c.if-groups-group.false c.if-classes-class.true

pub returns : goal.returns
returns c = operand_by _ _ _ _ _ c.operand_at-o.ensures c.args.counted.now.counted c.if-counted-o.false c.if-o-ge65536.false c.if-groups-group.false c.if-classes-class.false
    _ _ c.word_at-size.ensures c.group_len.ensures
