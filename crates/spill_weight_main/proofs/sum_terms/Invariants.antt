use Rattle.spill_weight_main.proofs.Terms.{Summing}
use Rattle.spill_weight_main.proofs.sum_terms.Given as goal

-- `spill_weight_main::sum_terms` meets its contract. Assumes nothing.

abbrev pub invariant-loop-i : goal.invariant-loop-i
invariant-loop-i l = Summing l.n l.sum.value l.i
