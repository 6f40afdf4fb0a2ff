use Rattle.split_placement.specs.Places.{bits_in}
use Rattle.split_placement.proofs.Leaves.{EdgeSoFar}
use Rattle.split_placement.proofs.margins.edge_of.Given as goal

abbrev pub invariant-loop-i : goal.invariant-loop-i
invariant-loop-i l = EdgeSoFar l.side (bits_in l.t) l.c.0 l.initial.i l.i-end l.e l.i
