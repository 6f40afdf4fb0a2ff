use mathlib.Core.Path.{◌≡◌}
use Prim.Native.Nat.{◌-◌}
use lib.ListN.{length}
use Rattle.words.specs.Words.{words_of, word_count}
use Rattle.job.specs.Job.{job_of}
use Rattle.constraints.specs.Held.{held_of}
use Rattle.constraints.specs.Ready.{Stands}
use Rattle.conflicts.proofs.Trying.{Trying}
use Rattle.conflicts.proofs.round.try_rows.Given as goal

abbrev pub invariant-loop-i : goal.invariant-loop-i
invariant-loop-i l = Trying (λ st. Stands l.fr.ol (words_of l.out) (words_of l.fr.job.bytes.now) (words_of l.initial.work) l.fr.job.lay l.fr.wl st) (job_of (words_of l.fr.job.bytes.now) l.fr.job.lay) (held_of l.initial.held) (word_count l.initial.work) (words_of l.initial.work) l.fr.wl.turned (words_of l.fr.job.bytes.now) l.fr.job.lay l.a l.b (words_of l.work) l.i l.j (held_of l.held)
    × (length l.work ≡ length l.initial.work)

abbrev pub decreases-loop-i : goal.decreases-loop-i
decreases-loop-i l = l.j - l.i
