-- What the steps over a working part need of the slices. Assumes nothing.
use Rattle.std.specs.Prelude.{ℕ, ◌+◌, ◌≤◌, ◌≡◌, true, List}
use Rattle.words.specs.RowsAt.{rows_at}
use Rattle.definition.specs.declared.Use.{Use}
use Rattle.definition.specs.Types.{Job, Segment}
use Rattle.definition.specs.Entry.{chained, not_after}
use Rattle.definition.specs.Place.{uses_of}
use Rattle.definition.specs.Build.{class_uses}
use Rattle.definition.proofs.Fits.{SegsFit}
use Rattle.definition.proofs.Admission.{KindFits}
use Rattle.hints.specs.Hints.{hint_at}
use Rattle.job.specs.declared.Layout.{Layout}
use Rattle.job.specs.Job.{job_of}
use Rattle.set_part.specs.declared.SetPart.{SetPart}
use Rattle.set_part.specs.Part.{PartOk, part_segs}
use Rattle.virt_regs.specs.Each.{Each}
use Rattle.job.specs.declared.work.WorkLayout.{WorkLayout}
use Rattle.constraints.specs.Ready.{Ready}
use Rattle.pieces.specs.Maps.{MapApart}
use Rattle.pieces.specs.Conflict.{RowsOk}
use Rattle.vreg_weight.specs.Sorted.{Sorted}
use Rattle.vreg_weight.specs.Sound.{Sound}
use Rattle.steps.specs.Turns.{TurnRoom}

-- a group use is as the entry rules have it
abbrev pub UseFits : Job → Use → Type 0
UseFits J u = KindFits J u.pos u.kind

-- segments that can be placed: they fit as the entry rules have it, and can be weighed
pub record SegsFair (J : Job) (ss : List Segment) : Type 0 where
  pub fit : SegsFit 0 ss
  pub kinds : Each (UseFits J) (uses_of ss)
  pub sound : Each (Sound J) (uses_of ss)
  pub sorted : Sorted 0 4096 ss

-- the class uses left: what falls from step to step
unfoldable pub uses_left : List ℕ → List ℕ → Layout → WorkLayout → SetPart → ℕ
unfolding class_uses uses_of part_segs
uses_left W K lay wl sp = class_uses (uses_of (part_segs K wl.marks W lay sp))

-- The part sp with the marks of K, behind n turned rows: the job has t words, the work slice w. There is a row left for each class use.
pub record Laid (t w : ℕ) (W K : List ℕ) (lay : Layout) (wl : WorkLayout) (sp : SetPart) (n : ℕ) : Type 0 where
  pub ready : Ready t w W K lay wl
  pub mapping : MapApart lay wl
  pub turns : TurnRoom w lay wl
  pub hints : chained not_after (rows_at hint_at W lay.hints.at 3 lay.hints.n) ≡ true
  pub ok : PartOk W lay sp
  pub fair : SegsFair (job_of W lay) (part_segs K wl.marks W lay sp)
  pub rows : RowsOk w K wl.turned lay 0 n
  pub left : n + uses_left W K lay wl sp ≤ lay.uses.n
