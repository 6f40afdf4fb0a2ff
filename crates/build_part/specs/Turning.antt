-- What turning uses of a part, one after the other, leaves; and the step that is then to be made. Assumes nothing.
use Rattle.std.specs.Prelude.{◌≡◌, ℕ, ◌-◌, ◌≤◌, List, Result, Ok, Err}
use Rattle.definition.specs.declared.RegClass.{RegClass}
use Rattle.definition.specs.declared.ValueSet.{ValueSet}
use Rattle.definition.specs.Types.{State}
use Rattle.definition.specs.Admit.{Move, whole, turn, cut, halt}
use Rattle.definition.proofs.Fuel.{run}
use Rattle.job.specs.declared.Layout.{Layout}
use Rattle.job.specs.Job.{job_of}
use Rattle.set_part.specs.declared.SetPart.{SetPart}
use Rattle.set_part.specs.Part.{part_segs}
use Rattle.virt_regs.specs.declared.OutLayout.{OutLayout}
use Rattle.virt_regs.specs.Encoding.{room_of}
use Rattle.job.specs.declared.work.WorkLayout.{WorkLayout}
use Rattle.constraints.specs.declared.Held.{Held}
use Rattle.constraints.specs.Held.{held_of}
use Rattle.constraints.specs.Ready.{Stands}
use Rattle.pieces.specs.Conflict.{turned_rows_of}
use Rattle.steps.specs.Laid.{uses_left, Laid}
use Rattle.steps.specs.Built.{Changed}
use Rattle.build_part.specs.declared.Settled.{Settled}
use Rattle.build_part.specs.declared.Settled.TheVariants.{Whole, Cut, Halt}

-- From the words K of the work slice and n turned rows to K' and n' rows: the part is laid out as before, the slices
-- stand for the same states, and the builder's answer is the same.
pub record Turning (t w : ℕ) (W K K' O : List ℕ) (lay : Layout) (ol : OutLayout) (wl : WorkLayout) (top : RegClass) (sp : SetPart) (n n' : ℕ) : Type 0 where
  pub laid : Laid t w W K' lay wl sp n'
  pub changed : Changed lay wl sp n K K'
  pub fewer : uses_left W K' lay wl sp ≤ uses_left W K lay wl sp
  pub more : n ≤ n'
  pub stands : (st : State) → Stands ol O W K lay wl st → Stands ol O W K' lay wl st
  pub back : (st : State) → Stands ol O W K' lay wl st → Stands ol O W K lay wl st
  pub same : (vs : ValueSet) (st : State) → Stands ol O W K lay wl st
      → run (job_of W lay) (room_of ol) vs top st (part_segs K wl.marks W lay sp) (turned_rows_of K wl.turned W lay 0 n)
      ≡ run (job_of W lay) (room_of ol) vs top st (part_segs K' wl.marks W lay sp) (turned_rows_of K' wl.turned W lay 0 n')

-- the step where h is held, as the definition has it
abbrev pub settled_of : Held → Settled → Move
settled_of h Whole = whole (held_of h)
settled_of h (Cut p) = cut p
settled_of h (Halt s) = halt s

-- a step, or the use to turn, which stands at a place from use number a on
abbrev pub settles : ℕ → Held → Result Settled ℕ → Move
settles a h (Ok s) = settled_of h s
settles a h (Err k) = turn (k - a)
