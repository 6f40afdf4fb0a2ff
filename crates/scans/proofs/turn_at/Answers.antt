use Rattle.scans.proofs.Steps.{turn_def, turn_use}
use Rattle.scans.proofs.turn_at.Goals as goal

pub returns-then-is_def : goal.returns-then-is_def
returns-then-is_def c a b h l m = turn_def _ a b _ l m _ _ c.marked_use-u.ensures c.is_def.ensures c.if-is_def.true h

pub returns : goal.returns
returns c a b h l m = turn_use _ a b _ l m _ _ c.marked_use-u.ensures c.is_def.ensures c.if-is_def.false h
