-- What is asked before a part is placed. Assumes nothing.
use Rattle.std.specs.Prelude.{◌≡◌, List, ℕ, ◌+◌, ◌^◌, ◌≤◌, ◌<◌}
use Rattle.definition.specs.Types.{Job, Piece, State}
use Rattle.definition.specs.Build.{as_own}
use Rattle.job.specs.declared.Layout.{Layout}
use Rattle.job.specs.Job.{job_of}
use Rattle.set_part.specs.declared.SetPart.{SetPart}
use Rattle.set_part.specs.Part.{PartOk, part_segs}
use Rattle.virt_regs.specs.declared.OutLayout.{OutLayout}
use Rattle.virt_regs.specs.declared.Counts.{Counts}
use Rattle.virt_regs.specs.Encoding.{tables_end, counts_of, Holds}
use Rattle.constraints.specs.declared.Held.{Held}
use Rattle.job.specs.declared.work.WorkLayout.{WorkLayout}
use Rattle.constraints.specs.Ready.{Ready, Stands}
use Rattle.vreg_weight.specs.Book.{SmallBook}
use Rattle.vreg_weight.specs.Fair.{Fair}
use Rattle.pieces.specs.Maps.{MapApart}
use Rattle.placing.specs.Held.{HeldFits}
use Rattle.placing.specs.EndEnds.{Sane}

-- the pieces that the part becomes
abbrev pub new_pieces : List ℕ → WorkLayout → List ℕ → Layout → SetPart → List Piece
new_pieces K wl W lay sp = as_own (part_segs K wl.marks W lay sp)

-- the slices stand for st, with the counts c, and its registers can be weighed
pub record Standing (J : Job) (ol : OutLayout) (O W K : List ℕ) (lay : Layout) (wl : WorkLayout) (c : Counts) (st : State) : Type 0 where
  pub stands : Stands ol O W K lay wl st
  pub counts : c ≡ counts_of st
  pub sane : Sane J st

-- the job is accepted, the work slice has its parts, the tables hold some state with the counts c that what is held fits, and the part is one of the job
pub record Asked (t w o : ℕ) (W K O : List ℕ) (lay : Layout) (ol : OutLayout) (wl : WorkLayout) (sp : SetPart) (h : Held) (c : Counts) : Type 0 where
  pub ready : Ready t w W K lay wl
  pub apart : MapApart lay wl
  pub book : SmallBook W lay
  pub long : tables_end ol ≤ o
  pub part : PartOk W lay sp
  pub regs : ol.regs < 2 ^ 32
  pub segs : ol.segs < 2 ^ 32
  pub uses : ol.uses < 2 ^ 32
  pub groups : ol.groups + 1 < 2 ^ 32
  pub st : State
  pub holds : Holds ol O st
  pub counts : c ≡ counts_of st
  pub fits : HeldFits (job_of W lay) st h
  pub sane : Sane (job_of W lay) st
  pub fair : Fair (job_of W lay) 4096 (new_pieces K wl W lay sp)
