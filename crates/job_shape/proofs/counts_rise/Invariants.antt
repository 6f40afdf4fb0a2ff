use mathlib.Core.Path.{◌≡◌}
use Rattle.words.specs.Words.{words_of}
use Rattle.job_shape.specs.Shape.{rises, use_counts}
use Rattle.job_shape.proofs.Rising.{from}
use Rattle.job_shape.proofs.counts_rise.Given as goal

abbrev pub invariant-loop-i : goal.invariant-loop-i
invariant-loop-i l = rises 0 (use_counts (words_of l.job.bytes.now) l.job.lay) l.job.lay.uses.n ≡ rises l.last (from (words_of l.job.bytes.now) l.job.lay l.i) l.job.lay.uses.n
