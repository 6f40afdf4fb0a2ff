use Rattle.words.specs.Words.{words_of}
use Rattle.set_part.proofs.Walk.{Passed}
use Rattle.set_part.proofs.Holder.{next_at}
use Rattle.set_part.proofs.mark.holder_of.Given as goal

abbrev pub invariant-loop-i : goal.invariant-loop-i
invariant-loop-i l = Passed (next_at (words_of l.job.bytes.now) l.job.lay.segments.at) l.c l.sp.seg l.i
