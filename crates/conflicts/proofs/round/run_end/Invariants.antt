use Rattle.words.specs.Words.{words_of}
use Rattle.set_runs.specs.Runs.{Running}
use Rattle.conflicts.proofs.Runs.{inst_at}
use Rattle.conflicts.proofs.round.run_end.Given as goal

abbrev pub invariant-loop-e : goal.invariant-loop-e
invariant-loop-e l = Running (inst_at (words_of l.work) l.fr.wl.turned (words_of l.fr.job.bytes.now) l.fr.job.lay) l.a l.n l.first.pos.0 l.e
