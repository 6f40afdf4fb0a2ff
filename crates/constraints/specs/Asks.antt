-- What a use asks of its register. Assumes nothing.
use Rattle.std.specs.Prelude.{ℕ}
use Rattle.definition.specs.declared.RegClass.{RegClass}
use Rattle.definition.specs.declared.UseKind.{UseKind}
use Rattle.definition.specs.declared.UseKind.TheVariants.{FixedDef, FixedUse, TiedUse, ConstraintConflict, ClassUse, ClassDef, GroupClassUse, GroupClassDef, BlockparamIn, BlockparamOut}
use Rattle.constraints.specs.declared.Ask.{Ask}
use Rattle.constraints.specs.declared.Ask.TheVariants.{Any, Class, Group}

abbrev pub group_ask : ℕ → RegClass → ℕ → Ask
group_ask s c i = Group (record { slot = s; class = c; index = i })

abbrev pub ask_of : UseKind → Ask
ask_of (FixedDef r) = Any
ask_of (FixedUse r) = Any
ask_of (TiedUse u d c i) = Any
ask_of ConstraintConflict = Any
ask_of (ClassUse s c) = Class c
ask_of (ClassDef s c) = Class c
ask_of (GroupClassUse s c i) = group_ask s c i
ask_of (GroupClassDef s c i) = group_ask s c i
ask_of (BlockparamIn p) = Any
ask_of BlockparamOut = Any
