use Rattle.entry_function.proofs.Tests.{group_few, group_many, group_by}
use Rattle.entry_function.proofs.vgroup_ok.Goals as goal

pub returns-then-n-lt2 : goal.returns-then-n-lt2
returns-then-n-lt2 c = group_few _ _ _ _ c.group_len-n.ensures c.if-n-lt2.true

pub returns-then-n-gt8 : goal.returns-then-n-gt8
returns-then-n-gt8 c = group_many _ _ _ _ c.group_len-n.ensures c.if-n-lt2.false c.if-n-gt8.true

pub returns : goal.returns
returns c = group_by _ _ _ _ c.group_len-n.ensures c.if-n-lt2.false c.if-n-gt8.false _ c.members_known.ensures
