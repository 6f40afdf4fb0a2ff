use Rattle.words.specs.Words.{words_of}
use Rattle.set_part.proofs.Walk.{Passed}
use Rattle.set_part.proofs.Past.{end_at}
use Rattle.set_part.proofs.cuts.first_past.Given as goal

abbrev pub invariant-loop-i : goal.invariant-loop-i
invariant-loop-i l = Passed (end_at (words_of l.job.bytes.now) l.job.lay.segments.at) l.q l.sp.seg l.i
