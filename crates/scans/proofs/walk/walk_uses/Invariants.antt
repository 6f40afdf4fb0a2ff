use Rattle.scans.specs.Walks.{book}
use Rattle.frame.specs.InFrame.{marked_use}
use Rattle.scans.proofs.Walking.{Ahead}
use Rattle.scans.proofs.walk.walk_uses.Given as goal

abbrev pub invariant-loop-n : goal.invariant-loop-n
invariant-loop-n l = Ahead (book l.fr.job) (marked_use l.fr l.work) l.fn.first l.fn.a l.fn.b l.held l.n
