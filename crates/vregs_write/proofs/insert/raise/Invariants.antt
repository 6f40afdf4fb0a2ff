use Rattle.words.specs.Words.{words_of}
use Rattle.vregs_write.proofs.Turns.{Raising}
use Rattle.vregs_write.proofs.insert.raise.Given as goal

abbrev pub invariant-loop-k : goal.invariant-loop-k
invariant-loop-k l = Raising l.m l.s l.n l.at (words_of l.initial.out) l.k (words_of l.out)
