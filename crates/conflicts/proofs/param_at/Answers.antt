use Rattle.conflicts.proofs.Reading.{param_none, param_some}
use Rattle.conflicts.proofs.param_at.Goals as goal

pub returns-then-word_at-eq0 : goal.returns-then-word_at-eq0
returns-then-word_at-eq0 c = param_none _ _ _ c.word_at.ensures c.if-word_at-eq0.true

pub returns-else-word_at-eq0 : goal.returns-else-word_at-eq0
returns-else-word_at-eq0 c = param_some _ _ _ _ c.word_at.ensures c.word_at-else-word_at-eq0.ensures c.if-word_at-eq0.false
