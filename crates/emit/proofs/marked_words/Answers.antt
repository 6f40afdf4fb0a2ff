use Rattle.emit.proofs.Use.{plain_words, marked_turned}
use Rattle.emit.proofs.marked_words.Goals as goal

pub returns-then-word_at-eq0 : goal.returns-then-word_at-eq0
returns-then-word_at-eq0 c = λ marks n lay ei em. plain_words _ marks _ lay n _ _ _ _ c.word_at.ensures ei em c.if-word_at-eq0.true c.words_at.ensures

pub returns : goal.returns
returns c = λ marks n lay ei em. marked_turned _ marks _ lay n _ _ _ _ c.word_at.ensures ei em c.if-word_at-eq0.false c.word_at-2.ensures
