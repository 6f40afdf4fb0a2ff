use native.Mathlib.Omega.{arith}
use mathlib.Core.Path.{ap}
use Rattle.definition.specs.Types.{inst}
use Rattle.entry_uses.proofs.KindTests.{kind_fixed, kind_tied, kind_classes, kind_groups, kind_params, kind_conflict, kind_past}
use Rattle.entry_uses.proofs.kind.kind_ok.Goals as goal

pub returns-in-0 : goal.returns-in-0
returns-in-0 c = kind_fixed _ _ _ _ _ _ _ _ _ _ c.word_at-2.ensures (ap inst c.word_at.ensures) c.word_at-a.ensures c.word_at-b.ensures c.word_at-x.ensures c.word_at-d.ensures (omega arith)

pub returns-in-2 : goal.returns-in-2
returns-in-2 c = kind_tied _ _ _ _ _ _ _ _ _ _ c.word_at-2.ensures (ap inst c.word_at.ensures) c.word_at-a.ensures c.word_at-b.ensures c.word_at-x.ensures c.word_at-d.ensures c.in-2.is _ c.tied_use_ok.ensures

pub returns-in-4 : goal.returns-in-4
returns-in-4 c = kind_classes _ _ _ _ _ _ _ _ _ _ c.word_at-2.ensures (ap inst c.word_at.ensures) c.word_at-a.ensures c.word_at-b.ensures c.word_at-x.ensures c.word_at-d.ensures (omega arith) (omega arith) _ c.class_use_ok.ensures

pub returns-in-6 : goal.returns-in-6
returns-in-6 c = kind_groups _ _ _ _ _ _ _ _ _ _ c.word_at-2.ensures (ap inst c.word_at.ensures) c.word_at-a.ensures c.word_at-b.ensures c.word_at-x.ensures c.word_at-d.ensures (omega arith) (omega arith) _ c.group_use_ok.ensures

pub returns-in-8 : goal.returns-in-8
returns-in-8 c = kind_params _ _ _ _ _ _ _ _ _ _ c.word_at-2.ensures (ap inst c.word_at.ensures) c.word_at-a.ensures c.word_at-b.ensures c.word_at-x.ensures c.word_at-d.ensures (omega arith) (omega arith) (omega arith)

pub returns-in_default : goal.returns-in_default
returns-in_default c = kind_conflict _ _ _ _ _ _ _ _ _ _ c.word_at-2.ensures (ap inst c.word_at.ensures) c.word_at-a.ensures c.word_at-b.ensures c.word_at-x.ensures c.word_at-d.ensures (omega arith)

pub returns-in_default-2 : goal.returns-in_default-2
returns-in_default-2 c = kind_past _ _ _ _ _ _ _ _ _ _ c.word_at-2.ensures (ap inst c.word_at.ensures) c.word_at-a.ensures c.word_at-b.ensures c.word_at-x.ensures c.word_at-d.ensures (omega arith)
