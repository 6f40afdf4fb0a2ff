use Rattle.function.proofs.Loops.{Putting}
use Rattle.function.proofs.starts.put_starts.Given as goal

abbrev pub invariant-loop-i : goal.invariant-loop-i
invariant-loop-i l = Putting l.blocks.words.now l.blocks.at l.blocks.n l.initial.starts l.at l.i l.first l.starts
