use mathlib.Core.Path.{◌≡◌}
use Prim.Native.Nat.{◌≤◌}
use lib.ListN.{length}
use Rattle.words.specs.Words.{words_of}
use Rattle.definition.specs.Types.{State}
use Rattle.job.specs.Job.{job_in}
use Rattle.frame.specs.InFrame.{marked_use}
use Rattle.constraints.specs.InFrame.{Stands}
use Rattle.scans.specs.Answers.{Passed}
use Rattle.steps.specs.Laid.{uses_left}
use Rattle.build_part.specs.InFrame.{Turning}
use Rattle.build_part.proofs.turn_uses.Given as goal

abbrev pub invariant-loop-last : goal.invariant-loop-last
invariant-loop-last l =
    (length l.work ≡ length l.initial.work)
    × Turning l.fr l.initial.work l.work l.out l.fn.top l.sp l.fn.n l.turned
    × (l.sp.first ≤ l.at)
    × (l.at ≤ l.sp.end)
    × ((st : State) → Stands l.fr l.out l.work st → Passed (job_in l.fr.job) st (marked_use l.fr l.work) l.fn.top l.sp.first l.at l.held)

-- each turn leaves a class use less
abbrev pub decreases-loop-last : goal.decreases-loop-last
decreases-loop-last l = uses_left (words_of l.fr.job.bytes.now) (words_of l.work) l.fr.job.lay l.fr.wl l.sp
