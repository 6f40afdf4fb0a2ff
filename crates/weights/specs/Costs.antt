-- The cost of a use and the weight of a register, given what the tables say. Assumes nothing.
use Rattle.std.specs.Prelude.{ℕ, Bool, false, not, ◌&&◌, cond, T, leb, get_or, Float}
use Rattle.std.specs.Float.{inf}
use Rattle.definition.specs.declared.RegClass.{RegClass}
use Rattle.definition.specs.declared.UseKind.{UseKind}
use Rattle.definition.specs.declared.UseKind.TheVariants.{FixedDef, FixedUse, TiedUse, ConstraintConflict, ClassUse, ClassDef, GroupClassUse, GroupClassDef, BlockparamIn, BlockparamOut}
use Rattle.definition.specs.declared.Options.{Options}
use Rattle.definition.specs.Types.{Job}
use Rattle.definition.specs.RegInfo.{zero_f, class_at}
use Rattle.definition.specs.Uses.{one_f, half_f}
use Rattle.definition.specs.SplitPlacement.{freq_at}
use Rattle.definition.specs.Entry.{plain, small}
use Rattle.definition.specs.Weights.{normalized}

-- the cost of a fixed kind, whose register is in memory or not
abbrev pub fixed_cost : Bool → Float
fixed_cost m = cond m zero_f one_f

-- the cost of a use whose class costs x and whose register is in memory or not
unfoldable pub base_cost : UseKind → Float → Bool → Float
base_cost (FixedDef r) x m = fixed_cost m
base_cost (FixedUse r) x m = fixed_cost m
base_cost (TiedUse u d c i) x m = half_f
base_cost ConstraintConflict x m = half_f
base_cost (ClassUse s c) x m = x
base_cost (ClassDef s c) x m = x
base_cost (GroupClassUse s c i) x m = x
base_cost (GroupClassDef s c i) x m = x
base_cost (BlockparamIn p) x m = zero_f
base_cost BlockparamOut x m = zero_f

-- what the tables say: the cost of a class use's class, else 0; whether the register of a fixed kind is in memory
unfoldable pub class_cost : Job → UseKind → Float
unfolding class_at
class_cost job (FixedDef r) = zero_f
class_cost job (FixedUse r) = zero_f
class_cost job (TiedUse u d c i) = zero_f
class_cost job ConstraintConflict = zero_f
class_cost job (ClassUse s c) = (class_at job c).cost
class_cost job (ClassDef s c) = (class_at job c).cost
class_cost job (GroupClassUse s c i) = (class_at job c).cost
class_cost job (GroupClassDef s c i) = (class_at job c).cost
class_cost job (BlockparamIn p) = zero_f
class_cost job BlockparamOut = zero_f

unfoldable pub in_memory : Job → UseKind → Bool
in_memory job (FixedDef r) = get_or job.memory r.0 false
in_memory job (FixedUse r) = get_or job.memory r.0 false
in_memory job (TiedUse u d c i) = false
in_memory job ConstraintConflict = false
in_memory job (ClassUse s c) = false
in_memory job (ClassDef s c) = false
in_memory job (GroupClassUse s c i) = false
in_memory job (GroupClassDef s c i) = false
in_memory job (BlockparamIn p) = false
in_memory job BlockparamOut = false

-- the weight, from the sum of the costs, the instructions, k and whether the class has spillslots
unfoldable pub weight_from : Float → ℕ → ℕ → Bool → Float
unfolding normalized
weight_from sum n k spillslots = cond (leb n 1 && not spillslots) (inf false) (normalized sum n k)

-- ---- what the entry tests say of a job's floats

pub record SmallScales (o : Options) : Type 0 where
  pub move_small : T (small o.cheaper_than_move)
  pub load_small : T (small o.cheaper_than_load)
  pub indirect_small : T (small o.indirect)

pub record PlainJob (job : Job) : Type 0 where
  pub scales : SmallScales job.options
  pub costs : (c : RegClass) → T (small (class_at job c).cost)
  pub frequencies : (i : ℕ) → T (plain (freq_at job.blocks i))
