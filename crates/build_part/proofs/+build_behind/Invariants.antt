-- The measure is how many class uses are left. Assumes nothing.
use Rattle.words.specs.Words.{words_of}
use Rattle.steps.specs.Laid.{uses_left}
use Rattle.build_part.proofs.+build_behind.Given as goal

abbrev pub decreases-build_behind : goal.decreases-build_behind
decreases-build_behind l =
    uses_left (words_of l.fr.now.job.bytes.now) (words_of l.work.now) l.fr.now.job.lay l.fr.now.wl l.sp
