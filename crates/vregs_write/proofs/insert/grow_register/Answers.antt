use Rattle.vregs_write.proofs.Turns.{grown_hint, grown_as}
use Rattle.vregs_write.proofs.insert.grow_register.Goals as goal

pub returns-then-hint : goal.returns-then-hint
returns-then-hint c = grown_hint _ _ _ _ _ _ c.word_at-count.ensures c.put_word.ensures c.if-hint.true _ c.put_word-then-hint.ensures

pub returns-else-hint : goal.returns-else-hint
returns-else-hint c = grown_as _ _ _ _ _ _ c.word_at-count.ensures c.put_word.ensures c.if-hint.false
