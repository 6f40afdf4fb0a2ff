-- What every state of a build is, and when the slices stand for it. Assumes nothing.
use Rattle.std.specs.Prelude.{◌≡◌, ℕ, ◌<◌, List, length, get_or}
use Rattle.std.proofs.Math.Option.{none, some}
use Rattle.definition.specs.declared.Inst.{Inst}
use Rattle.definition.specs.declared.VirtReg.{VirtReg}
use Rattle.definition.specs.declared.VirtRegGroup.{VirtRegGroup}
use Rattle.definition.specs.Types.{Job, State}
use Rattle.definition.specs.Admit.{members_at, mapped_at, register_at}
use Rattle.definition.proofs.Places.{Groups}
use Rattle.definition.proofs.Admission.{asked, size_of}
use Rattle.job.specs.declared.Layout.{Layout}
use Rattle.virt_regs.specs.declared.OutLayout.{OutLayout}
use Rattle.virt_regs.specs.declared.Counts.{Counts}
use Rattle.virt_regs.specs.Encoding.{counts_of}
use Rattle.job.specs.declared.work.WorkLayout.{WorkLayout}
use Rattle.constraints.specs.Ready.{Stands}
use Rattle.placing.specs.EndEnds.{Sane}

-- groups have as many places as the classes of their members and of the operands mapped to them
pub record GroupsFit (J : Job) (st : State) : Type 0 where
  pub mapped : (p : Inst) (s : ℕ) (g : VirtRegGroup) → mapped_at st.mapping p s ≡ some g → (g.0 < length st.groups) × (length (members_at st g) ≡ size_of J (asked J p s))
  pub members : (g : VirtRegGroup) (i : ℕ) (v : VirtReg) → g.0 < length st.groups → get_or (members_at st g) i none ≡ some v → size_of J (register_at st v).class ≡ length (members_at st g)

-- its registers can be weighed, its groups have registers of the state as members, and have as many places as these ask for
pub record StateFits (J : Job) (st : State) : Type 0 where
  pub sane : Sane J st
  pub groups : Groups st
  pub fit : GroupsFit J st

-- the words O of the result tables and K of the work slice stand for st, which has the counts c
pub record StandsAs (J : Job) (ol : OutLayout) (O W K : List ℕ) (lay : Layout) (wl : WorkLayout) (c : Counts) (st : State) : Type 0 where
  pub stands : Stands ol O W K lay wl st
  pub counts : c ≡ counts_of st
  pub fits : StateFits J st
