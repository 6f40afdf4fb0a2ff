-- What the code's answers stand for. Assumes nothing.
use Rattle.std.specs.Prelude.{ℕ, List}
use Rattle.std.specs.Prelude as code
use Rattle.std.proofs.Math.Option.{Option, none, some, bind}
use Rattle.definition.specs.declared.RegClass.{RegClass}
use Rattle.definition.specs.declared.ValueSet.{ValueSet}
use Rattle.definition.specs.declared.VirtReg.{VirtReg}
use Rattle.definition.specs.declared.VirtRegGroup.{VirtRegGroup}
use Rattle.definition.specs.Types.{Job, State}
use Rattle.definition.specs.Types as types
use Rattle.definition.specs.Admit.{guard, group_fits, in_group}
use Rattle.constraints.specs.Places.{option_of}
use Rattle.constraints.specs.declared.Held.{Held}
use Rattle.constraints.specs.declared.HeldGroup.{HeldGroup}

-- what group uses hold, as the definition has it
abbrev pub group_held : HeldGroup → types.HeldGroup
group_held g = record { index = g.index; mapped = option_of g.mapped; sets = g.sets }

abbrev pub group_of : code.Option HeldGroup → Option types.HeldGroup
group_of code.None = none
group_of (code.Some g) = some (group_held g)

-- what is held
unfoldable pub held_of : Held → types.Held
held_of h = record { class = h.class; group = group_of h.group; target = option_of h.target }

-- what is then held, if the use is admitted
unfoldable pub admission_of : code.Option Held → Option types.Held
unfolding held_of
admission_of code.None = none
admission_of (code.Some h) = some (held_of h)

-- what is held after a group use
abbrev pub holding : ℕ → Option VirtRegGroup → List ValueSet → RegClass × Option VirtReg → types.Held
holding i m sets n = record { class = n.0; group = some (record { index = i; mapped = m; sets = sets }); target = n.1 }

-- the admission of a group use, of its candidate class k on
unfoldable pub into_group : Job → State → types.Held → RegClass → ℕ → Option VirtRegGroup → List ValueSet → Option types.Held
unfolding bind guard group_fits in_group
into_group job st h k i m sets = bind (guard (group_fits h.group i m sets)) λ _. bind (in_group job st h k i m) λ n. some (holding i m sets n)
