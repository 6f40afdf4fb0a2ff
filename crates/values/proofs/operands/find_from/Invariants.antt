use Rattle.values.specs.InIndex.{operands_in}
use Rattle.values.proofs.Links.{Following}
use Rattle.values.proofs.operands.find_from.Given as goal

abbrev pub invariant-loop-link : goal.invariant-loop-link
invariant-loop-link l = Following (operands_in l.index) l.index.chains.count l.slot l.k l.link

abbrev pub decreases-loop-link : goal.decreases-loop-link
decreases-loop-link l = l.link
