use Rattle.words.specs.Words.{words_of}
use Rattle.vregs_write.proofs.Scans.{EndsOn}
use Rattle.vregs_write.proofs.find.ends_by.Given as goal

abbrev pub invariant-loop-i : goal.invariant-loop-i
invariant-loop-i l = EndsOn l.ol (words_of l.out) l.first l.count l.a l.i
