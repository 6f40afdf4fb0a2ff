use Rattle.words.specs.Words.{words_of}
use Rattle.vreg_weight.specs.InWeighing.{weighed_job}
use Rattle.vreg_weight.proofs.Pieces.{Pieces}
use Rattle.vreg_weight.proofs.sum_pieces.Given as goal

abbrev pub invariant-loop-i : goal.invariant-loop-i
invariant-loop-i l = Pieces (weighed_job l.by) l.by.fr.now.ol (words_of l.out) l.p l.n l.sum.value l.i
