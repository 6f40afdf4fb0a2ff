use Rattle.words.specs.Words.{words_of}
use Rattle.set_runs.specs.Runs.{Running}
use Rattle.set_runs.proofs.Segments.{set_number}
use Rattle.set_runs.proofs.set_end.Given as goal

abbrev pub invariant-loop-e : goal.invariant-loop-e
invariant-loop-e l = Running (set_number (words_of l.job.bytes.now) l.job.lay) l.a l.job.lay.segments.n l.first.0 l.e
