use Rattle.words.specs.Rows.{row_words}
use Rattle.live_range.proofs.Counting.{Counting}
use Rattle.live_range.proofs.insts.live_insts.Given as goal

abbrev pub invariant-loop-i : goal.invariant-loop-i
invariant-loop-i l = Counting (row_words l.pieces) l.pieces.at l.pieces.n l.i l.sum l.counted
