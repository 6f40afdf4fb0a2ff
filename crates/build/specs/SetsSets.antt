-- What building a set, and building all sets, asks of the slices. Assumes nothing.
use Rattle.std.specs.Prelude.{◌≡◌, List, ◌∷◌, ℕ, ◌≤◌, ◌<◌}
use Rattle.definition.specs.Types.{State}
use Rattle.definition.specs.Place.{empty}
use Rattle.definition.specs.Build.{runs, same_set}
use Rattle.job.specs.declared.Layout.{Layout}
use Rattle.job.specs.Layout.{seg_at}
use Rattle.job.specs.Job.{job_of}
use Rattle.virt_regs.specs.declared.OutLayout.{OutLayout}
use Rattle.virt_regs.specs.declared.Counts.{Counts}
use Rattle.virt_regs.specs.Encoding.{counts_of}
use Rattle.job.specs.declared.work.WorkLayout.{WorkLayout}
use Rattle.steps.specs.Builds.{Builds}
use Rattle.steps.specs.Fits.{StandsAs}
use Rattle.set_runs.specs.Sets.{segs_from}
use Rattle.build.specs.Begun.{Begun, Onward}

-- Segments a to b - 1 are the first set of those from a on; the job is accepted, and the slices stand for some state with the counts c. The job has t words, the work slice w and the result tables o.
pub record SetReady (t w o : ℕ) (W K O : List ℕ) (lay : Layout) (wl : WorkLayout) (ol : OutLayout) (a b : ℕ) (c : Counts) : Type 0 where
  pub begun : Begun w W lay wl
  pub builds : Builds o W lay ol
  pub onward : Onward t w W K lay wl (seg_at W lay a).first
  pub some_seg : a < b
  pub within : b ≤ lay.segments.n
  pub first : runs (same_set (job_of W lay)) (segs_from W lay a lay.segments.n) ≡ segs_from W lay a b ∷ runs (same_set (job_of W lay)) (segs_from W lay b lay.segments.n)
  pub st : State
  pub stands : StandsAs (job_of W lay) ol O W K lay wl c st

-- before the first set: the slices stand for the empty state
pub record SetsReady (t w o : ℕ) (W K O : List ℕ) (lay : Layout) (wl : WorkLayout) (ol : OutLayout) : Type 0 where
  pub begun : Begun w W lay wl
  pub builds : Builds o W lay ol
  pub onward : 0 < lay.segments.n → Onward t w W K lay wl (seg_at W lay 0).first
  pub stands : StandsAs (job_of W lay) ol O W K lay wl (counts_of empty) empty
