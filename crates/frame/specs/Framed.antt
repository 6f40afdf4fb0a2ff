-- The frame of a job, and that it gives the layouts back. Assumes nothing.
use Rattle.std.specs.Prelude.{◌≡◌}
use Rattle.std.proofs.Common.{ap}
use Rattle.job.specs.declared.Layout.{Layout}
use Rattle.job.specs.declared.job.Job.{Job}
use Rattle.virt_regs.specs.declared.OutLayout.{OutLayout}
use Rattle.job.specs.declared.work.WorkLayout.{WorkLayout}
use Rattle.frame.specs.declared.lent.Frame.{Frame}

-- the frame of a job, its result tables and its work slice
pub record Framed (lent : Job) (ol : OutLayout) (wl : WorkLayout) (fr : Frame) : Type 0 where
  pub job : fr.job ≡ lent
  pub out : fr.ol ≡ ol
  pub work : fr.wl ≡ wl

-- the job's layout
abbrev pub layout_in : Frame → Layout
layout_in fr = fr.job.lay

-- the result tables' numbers of rows
abbrev pub out_in : Frame → OutLayout
out_in fr = fr.ol

-- the places of the work slice
abbrev pub work_in : Frame → WorkLayout
work_in fr = fr.wl

-- a frame gives the layouts back
module _ (job : Job) (ol : OutLayout) (wl : WorkLayout) (fr : Frame) (f : Framed job ol wl fr) where
  pub layout_framed : layout_in fr ≡ job.lay
  layout_framed = ap (λ (j : Job). j.lay) f.job

  pub out_framed : out_in fr ≡ ol
  out_framed = f.out

  pub work_framed : work_in fr ≡ wl
  work_framed = f.work
