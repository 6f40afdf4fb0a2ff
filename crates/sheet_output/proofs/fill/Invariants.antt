use Rattle.words.specs.Words.{word_count, words_of}
use Rattle.sheet_output.specs.Left.{rows_left}
use Rattle.sheet_output.proofs.Fills.{Filling}
use Rattle.sheet_output.proofs.fill.Given as goal

abbrev pub invariant-loop-page : goal.invariant-loop-page
invariant-loop-page l = Filling l.ol (word_count l.tables) (words_of l.tables) l.regs l.groups l.initial.page.cur l.page.cur l.page.n l.buf

abbrev pub decreases-loop-page : goal.decreases-loop-page
decreases-loop-page l = rows_left l.ol l.regs l.groups l.page.cur
