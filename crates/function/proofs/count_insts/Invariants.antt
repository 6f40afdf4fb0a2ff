use Rattle.words.specs.Rows.{row_words}
use Rattle.function.proofs.Rows.{Counting}
use Rattle.function.proofs.count_insts.Given as goal

abbrev pub invariant-loop-i : goal.invariant-loop-i
invariant-loop-i l = Counting (row_words l.blocks) l.blocks.at l.blocks.n l.i l.total
