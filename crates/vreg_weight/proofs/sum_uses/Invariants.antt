use Rattle.words.specs.Rows.{row_words}
use Rattle.vreg_weight.specs.InWeighing.{weighed_job}
use Rattle.vreg_weight.proofs.Sums.{Summing}
use Rattle.vreg_weight.proofs.sum_uses.Given as goal

abbrev pub invariant-loop-i : goal.invariant-loop-i
invariant-loop-i l = Summing (weighed_job l.by) l.remat (row_words l.uses) l.uses.at l.uses.n l.by.fr.now.job.lay.blocks.n l.fn.sum.value l.total.value l.b.0 l.i
