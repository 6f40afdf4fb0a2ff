-- When what is held fits the state. Assumes nothing.
use Rattle.std.specs.Prelude.{◌≡◌, refl, ℕ, ◌≤◌, ◌<◌, length, Some}
use Rattle.definition.specs.declared.VirtReg.{VirtReg}
use Rattle.definition.specs.declared.VirtRegGroup.{VirtRegGroup}
use Rattle.definition.specs.Types.{Job, State}
use Rattle.definition.specs.RegInfo.{class_at}
use Rattle.definition.specs.Admit.{members_at}
use Rattle.constraints.specs.declared.Held.{Held}
use Rattle.constraints.specs.declared.HeldGroup.{HeldGroup}
use Rattle.constraints.specs.Held.{held_of}

-- group g has a place i
abbrev pub InGroup : VirtRegGroup → ℕ → State → Type 0
InGroup g i st = (g.0 < length st.groups) × (i < length (members_at st g))

-- what is held fits the state: a place of the class, a group and a register of the state
pub record HeldFits (J : Job) (st : State) (h : Held) : Type 0 where
  pub index : (g : HeldGroup) → h.group ≡ Some g → (g.index < (class_at J h.class).size) × ((class_at J h.class).size ≤ 8)
  pub group : (g : HeldGroup) (m : VirtRegGroup) → h.group ≡ Some g → g.mapped ≡ Some m → InGroup m g.index st
  pub target : (g : HeldGroup) (v : VirtReg) → h.group ≡ Some g → h.target ≡ Some v → v.0 < length st.registers

pub class_held : (h : Held) → (held_of h).class ≡ h.class
unfolding held_of
class_held h = refl
