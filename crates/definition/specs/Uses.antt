-- uses.rs: what a use is, where it ends, what it costs. Assumes nothing.
use Rattle.std.specs.Prelude.{ℕ, ◌+◌, ◌*◌, Bool, true, false, cond, pos, negsuc, get_or, Float}
use Rattle.std.proofs.Math.Option.{Option, none, some}
use Rattle.std.specs.Float.{fin}
use Rattle.definition.specs.Types.{RegClass, LiveRangePoint, UseKind, FixedDef, FixedUse, TiedUse, ConstraintConflict, ClassUse, ClassDef, GroupClassUse, GroupClassDef, BlockparamIn, BlockparamOut, Use, Job, point}
use Rattle.definition.specs.RegInfo.{zero_f, class_at}

-- "A *class use* is a ClassUse, ClassDef, GroupClassUse or GroupClassDef": its class (a term that document 01 coins)
abbrev pub class_of : UseKind → Option RegClass
class_of (FixedDef r) = none
class_of (FixedUse r) = none
class_of (TiedUse u d c i) = none
class_of ConstraintConflict = none
class_of (ClassUse s c) = some c
class_of (ClassDef s c) = some c
class_of (GroupClassUse s c i) = some c
class_of (GroupClassDef s c i) = some c
class_of (BlockparamIn p) = none
class_of BlockparamOut = none

abbrev pub is_class_use : UseKind → Bool
is_class_use (FixedDef r) = false
is_class_use (FixedUse r) = false
is_class_use (TiedUse u d c i) = false
is_class_use ConstraintConflict = false
is_class_use (ClassUse s c) = true
is_class_use (ClassDef s c) = true
is_class_use (GroupClassUse s c i) = true
is_class_use (GroupClassDef s c i) = true
is_class_use (BlockparamIn p) = false
is_class_use BlockparamOut = false

-- `is_def`
abbrev pub is_def : UseKind → Bool
is_def (FixedDef r) = true
is_def (FixedUse r) = false
is_def (TiedUse u d c i) = false
is_def ConstraintConflict = false
is_def (ClassUse s c) = false
is_def (ClassDef s c) = true
is_def (GroupClassUse s c i) = false
is_def (GroupClassDef s c i) = true
is_def (BlockparamIn p) = true
is_def BlockparamOut = false

-- `end_point`: FixedDef, ClassDef, GroupClassDef and BlockparamOut end at the Boundary of the next instruction, ClassUse and GroupClassUse at Normal of their own,
-- FixedUse, TiedUse, ConstraintConflict and BlockparamIn at the Boundary of their own. So not every definition ends at the next Boundary: BlockparamIn is one that
-- does not; and BlockparamOut, which is none, does.
abbrev pub end_slot : UseKind → ℕ
end_slot (FixedDef r) = 4
end_slot (FixedUse r) = 0
end_slot (TiedUse u d c i) = 0
end_slot ConstraintConflict = 0
end_slot (ClassUse s c) = 2
end_slot (ClassDef s c) = 4
end_slot (GroupClassUse s c i) = 2
end_slot (GroupClassDef s c i) = 4
end_slot (BlockparamIn p) = 0
end_slot BlockparamOut = 4

unfoldable pub end_point : Use → LiveRangePoint
end_point u = point (4 * u.pos.0 + end_slot u.kind)

-- the slot of a group use's operand
abbrev pub slot_of : UseKind → Option ℕ
slot_of (FixedDef r) = none
slot_of (FixedUse r) = none
slot_of (TiedUse u d c i) = none
slot_of ConstraintConflict = none
slot_of (ClassUse s c) = none
slot_of (ClassDef s c) = none
slot_of (GroupClassUse s c i) = some s
slot_of (GroupClassDef s c i) = some s
slot_of (BlockparamIn p) = none
slot_of BlockparamOut = none

-- the block parameter of a BlockparamIn
abbrev pub param_of : UseKind → Option ℕ
param_of (FixedDef r) = none
param_of (FixedUse r) = none
param_of (TiedUse u d c i) = none
param_of ConstraintConflict = none
param_of (ClassUse s c) = none
param_of (ClassDef s c) = none
param_of (GroupClassUse s c i) = none
param_of (GroupClassDef s c i) = none
param_of (BlockparamIn p) = some p
param_of BlockparamOut = none

-- ---- "Costs: fixed kinds 1.0, 0 for a memory register; class uses their class's cost; tied and conflict kinds 0.5; block parameters 0."

abbrev pub one_f : Float
one_f = fin false 1 (pos 0)

abbrev pub half_f : Float
half_f = fin false 1 (negsuc 0)

unfoldable pub cost_of : Job → UseKind → Float
unfolding class_at
cost_of job (FixedDef r) = cond (get_or job.memory r.0 false) zero_f one_f
cost_of job (FixedUse r) = cond (get_or job.memory r.0 false) zero_f one_f
cost_of job (TiedUse u d c i) = half_f
cost_of job ConstraintConflict = half_f
cost_of job (ClassUse s c) = (class_at job c).cost
cost_of job (ClassDef s c) = (class_at job c).cost
cost_of job (GroupClassUse s c i) = (class_at job c).cost
cost_of job (GroupClassDef s c i) = (class_at job c).cost
cost_of job (BlockparamIn p) = zero_f
cost_of job BlockparamOut = zero_f
