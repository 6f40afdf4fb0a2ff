use Rattle.words.specs.Words.{words_of}
use Rattle.sheet_verdict.proofs.Sets.{Comparing}
use Rattle.sheet_verdict.proofs.written.sets_as_implied.Given as goal

abbrev pub invariant-loop-j : goal.invariant-loop-j
invariant-loop-j l = Comparing (words_of l.written.words.now) (words_of l.written.job.bytes.now) l.written.job.lay l.j
