-- What placing the conflict registers of a set asks, and what it leaves behind. Assumes nothing.
use Rattle.std.specs.Prelude.{◌≡◌, List, ℕ, suc, ◌+◌, ◌*◌, ◌≤◌, ◌<◌, length, get_or, Result, Ok, Err}
use Rattle.definition.specs.declared.RegClass.{RegClass}
use Rattle.definition.specs.declared.ValueSet.{ValueSet}
use Rattle.definition.specs.Types.{Job, Room, State, Turned, Out, done, refused}
use Rattle.definition.specs.Build.{rounds}
use Rattle.job.specs.declared.Layout.{Layout}
use Rattle.job.specs.Job.{job_of}
use Rattle.virt_regs.specs.declared.OutLayout.{OutLayout}
use Rattle.virt_regs.specs.declared.Counts.{Counts}
use Rattle.job.specs.declared.work.WorkLayout.{WorkLayout}
use Rattle.constraints.specs.Ready.{Ready}
use Rattle.pieces.specs.Maps.{MapApart}
use Rattle.pieces.specs.Conflict.{turned_rows_of, RowsOk, param_by}
use Rattle.placing.specs.declared.end.NotPlaced.{NotPlaced}
use Rattle.placing.specs.EndEnds.{Placed, end_of}
use Rattle.steps.specs.Turns.{TurnRoom}
use Rattle.steps.specs.Builds.{Builds}
use Rattle.steps.specs.Fits.{StandsAs}
use Rattle.pieces.specs.declared.conflict.First.{First}
use Rattle.conflicts.specs.declared.RoundEnd.{RoundEnd}

-- K' is K but for the words of the mapping and those from the turned rows on
pub record Between (lay : Layout) (wl : WorkLayout) (K K' : List ℕ) : Type 0 where
  pub long : length K' ≡ length K
  pub before : (j : ℕ) → j < wl.mapping → get_or K' j 0 ≡ get_or K j 0
  pub until : (j : ℕ) → wl.mapping + lay.operands.n ≤ j → j < wl.turned → get_or K' j 0 ≡ get_or K j 0

-- and the turned rows from row b on are as they were
pub record Rounded (lay : Layout) (wl : WorkLayout) (b : ℕ) (K K' : List ℕ) : Type 0 where
  pub between : Between lay wl K K'
  pub behind : (j : ℕ) → wl.turned + b * 4 ≤ j → get_or K' j 0 ≡ get_or K j 0

-- a state, which the words O of the result tables and K of the work slice stand for, or a refusal
unfoldable pub EndsAs : Job → OutLayout → List ℕ → Layout → WorkLayout → List ℕ → List ℕ → Placed → Out State → Type 0
EndsAs J ol W lay wl O K (Ok c) (done st) = StandsAs J ol O W K lay wl c st
EndsAs J ol W lay wl O K (Err e) (refused f) = end_of f e
EndsAs J ol W lay wl O K (Ok c) (refused f) = ⊥
EndsAs J ol W lay wl O K (Err e) (done st) = ⊥

-- The job has t words, the work slice w and the result tables o; rows a to b - 1 are turned uses of the job, and the slices stand for some state with the counts c.
pub record Given (t w o : ℕ) (W K O : List ℕ) (lay : Layout) (wl : WorkLayout) (ol : OutLayout) (a b : ℕ) (c : Counts) : Type 0 where
  pub ready : Ready t w W K lay wl
  pub apart : MapApart lay wl
  pub turns : TurnRoom w lay wl
  pub builds : Builds o W lay ol
  pub segments : 0 < lay.segments.n
  pub rows : RowsOk w K wl.turned lay a b
  pub st : State
  pub stands : StandsAs (job_of W lay) ol O W K lay wl c st

-- what a conflict piece takes over of the first turned use t of its instruction
pub record IsFirst (x : First) (t : Turned) : Type 0 where
  pub value : t.value ≡ x.value
  pub pos : t.use'.pos ≡ x.pos
  pub param : t.param ≡ param_by x.param

-- One round over the turned uses us, which ended with the slices' words O and K: a register is placed and the rows left over, up to row b - 1, are still to do; or that is the end.
unfoldable pub RoundAs : Job → OutLayout → List ℕ → Layout → WorkLayout → List ℕ → List ℕ → ℕ → Room → ValueSet → RegClass → Turned → ℕ → State → List Turned → Result RoundEnd NotPlaced → Type 0
RoundAs J ol W lay wl O K b room set' top t f st us (Ok r) =
    (st' : State) × StandsAs J ol O W K lay wl r.counts st' × (rounds (suc f) J room set' top t st us ≡ rounds f J room set' top t st' (turned_rows_of K wl.turned W lay r.next b))
RoundAs J ol W lay wl O K b room set' top t f st us (Err e) = EndsAs J ol W lay wl O K (Err e) (rounds (suc f) J room set' top t st us)
