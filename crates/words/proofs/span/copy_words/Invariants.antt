use Rattle.words.proofs.Runs.{Copying}
use Rattle.words.proofs.span.copy_words.Given as goal

abbrev pub invariant-loop-k : goal.invariant-loop-k
invariant-loop-k l = Copying l.initial.dst l.at l.src l.from l.n l.k l.dst
