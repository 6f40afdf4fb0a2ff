use Rattle.conflicts.proofs.Swap.{words_read}
use Rattle.conflicts.proofs.round.row_words.Goals as goal

pub returns : goal.returns
returns c = words_read _ _ _ _ _ _ c.word_at.ensures c.word_at-2.ensures c.word_at-3.ensures c.word_at-4.ensures
