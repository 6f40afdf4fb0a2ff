use Rattle.vregs_write.proofs.Loops.{Spreading}
use Rattle.vregs_write.proofs.change.spread.Given as goal

abbrev pub invariant-loop-i : goal.invariant-loop-i
invariant-loop-i l = Spreading l.ol l.g l.class.0 l.weight l.i-end l.initial.out l.i l.out
