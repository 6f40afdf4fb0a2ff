use Rattle.split_placement.specs.Places.{bits_in}
use Rattle.split_placement.proofs.Walks.{SoFar}
use Rattle.split_placement.proofs.least.Given as goal

abbrev pub invariant-loop-j : goal.invariant-loop-j
invariant-loop-j l = SoFar l.side (bits_in l.t) l.initial.j l.j-end l.best.0 l.j
