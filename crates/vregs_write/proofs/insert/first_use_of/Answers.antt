use Rattle.vregs_write.proofs.Turns.{use_last, use_read}
use Rattle.vregs_write.proofs.insert.first_use_of.Goals as goal

pub returns-then-i-c : goal.returns-then-i-c
returns-then-i-c c = use_last _ _ _ _ c.if-i-c.true

pub returns : goal.returns
returns c = use_read _ _ _ _ _ c.requires.1 c.if-i-c.false (rw c.seg_base.ensures at c.word_at.ensures)
