use Rattle.std.specs.Prelude.{◌≡◌, length}
use Rattle.words.specs.Words.{words_of}
use Rattle.job.specs.JobWords.{words_in}
use Rattle.definition.specs.Build.{as_own}
use Rattle.frame.specs.InFrame.{marked_use}
use Rattle.job.specs.Job.{job_in}
use Rattle.pieces.proofs.PartRows.{segs_to}
use Rattle.emit.specs.Told.{Told}
use Rattle.emit.proofs.emit_part.Given as goal

abbrev pub invariant-loop-i : goal.invariant-loop-i
invariant-loop-i l =
    Told (job_in l.fn.fr.job) l.fn.fr.ol (words_of l.initial.out) l.p l.u
    (as_own (segs_to (marked_use l.fn.fr l.work) (words_in l.fn.fr.job) l.fn.fr.job.lay l.sp l.i)) (words_of l.out) l.t
    × (length l.out ≡ length l.initial.out)
