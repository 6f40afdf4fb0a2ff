use Rattle.words.specs.Words.{words_of}
use Rattle.vreg_weight.proofs.Least.{Leasting}
use Rattle.vreg_weight.proofs.least_weight.Given as goal

abbrev pub invariant-loop-j : goal.invariant-loop-j
invariant-loop-j l = Leasting l.ol (words_of l.out) l.g l.i l.fn.w.value l.least.value l.j
