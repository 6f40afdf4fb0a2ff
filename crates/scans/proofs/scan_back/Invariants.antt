use Prim.Native.Nat.{◌-◌}
use Rattle.words.specs.Words.{words_of}
use Rattle.job.specs.Job.{job_of}
use Rattle.constraints.specs.Ready.{Stands}
use Rattle.set_part.specs.Part.{marked_use}
use Rattle.scans.proofs.Scanning.{Backward}
use Rattle.scans.proofs.scan_back.Given as goal

abbrev pub invariant-loop-n : goal.invariant-loop-n
invariant-loop-n l = Backward (λ st. Stands l.fr.ol (words_of l.out) (words_of l.fr.job.bytes.now) (words_of l.work) l.fr.job.lay l.fr.wl st) (job_of (words_of l.fr.job.bytes.now) l.fr.job.lay) (marked_use (words_of l.work) l.fr.wl.marks (words_of l.fr.job.bytes.now) l.fr.job.lay) l.fn.a l.fn.e l.initial.held l.n l.held

abbrev pub decreases-loop-n : goal.decreases-loop-n
decreases-loop-n l = l.n - l.fn.a
