use Rattle.frames.proofs.Spelling.{Spelling}
use Rattle.frames.proofs.number.Given as goal

abbrev pub invariant-loop-i : goal.invariant-loop-i
invariant-loop-i l = Spelling l.head l.at l.v l.i
