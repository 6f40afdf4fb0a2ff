use Rattle.words.specs.Words.{words_of}
use Rattle.job.specs.Job.{job_of}
use Rattle.constraints.proofs.Narrowing.{Narrowing}
use Rattle.constraints.proofs.members.narrowed_by.Given as goal

abbrev pub invariant-loop-i : goal.invariant-loop-i
invariant-loop-i l = Narrowing l.fr.ol (words_of l.out) (job_of (words_of l.fr.job.bytes.now) l.fr.job.lay) l.g l.initial.class l.i l.class
