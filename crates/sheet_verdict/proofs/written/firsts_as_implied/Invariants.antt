use Rattle.words.specs.Words.{words_of}
use Rattle.sheet_verdict.proofs.Firsts.{Comparing}
use Rattle.sheet_verdict.proofs.written.firsts_as_implied.Given as goal

abbrev pub invariant-loop-i : goal.invariant-loop-i
invariant-loop-i l = Comparing (words_of l.written.words.now) (words_of l.written.job.bytes.now) l.written.job.lay l.i l.first
