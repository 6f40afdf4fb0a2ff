use Rattle.values.proofs.Turns.{Linking}
use Rattle.values.proofs.operands.put_chains.Given as goal

abbrev pub invariant-loop-k : goal.invariant-loop-k
invariant-loop-k l = Linking l.t l.initial.work l.c l.k l.work
