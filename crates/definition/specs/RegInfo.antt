-- reginfo.rs: classes, and the tables of the register book and of the values. Assumes nothing.
use Rattle.std.specs.Prelude.{ℕ, zero, suc, false, pos, get_or, Float}
use Rattle.std.proofs.Math.Option.{Option, none, some}
use Rattle.std.specs.Int.Bits.{bit_and}
use Rattle.std.specs.Int.Count.{count_trailing_zeros}
use Rattle.std.specs.Float.{fin}
use Rattle.definition.specs.Types.{Value, ValueSet, RegClass, ClassData, Never, ValueData, Job, cls, val, vset}

-- ---- reading a table: an entry, or one that no accepted job reads

abbrev pub zero_f : Float
zero_f = fin false 0 (pos 0)

abbrev pub no_class : ClassData
no_class = record { mask = 0; cost = zero_f; size = 0; spillslots = false }

abbrev pub no_value : ValueData
no_value = record { bank = record { 0 = 0 }; leader = val 0; remat = Never }

unfoldable pub class_at : Job → RegClass → ClassData
class_at job c = get_or job.classes c.0 no_class

unfoldable pub value_at : Job → Value → ValueData
value_at job v = get_or job.values v.0 no_value

-- "A set is the values of one leader": its number is the leader's
unfoldable pub set_of : Job → Value → ValueSet
unfolding value_at
set_of job v = vset (value_at job v).leader.0

-- "A set's bank is that of its first segment's value": the top class of value v's bank
unfoldable pub top_of : Job → Value → RegClass
unfolding value_at
top_of job v = get_or job.banks (value_at job v).bank.0 (cls 0)

-- ---- "`common_subclass` is the lowest-numbered class in both subclass sets, or none."

-- the lowest bit of a mask
unfoldable pub lowest : ℕ → Option RegClass
unfolding count_trailing_zeros
lowest zero = none
lowest (suc m) = some (cls (count_trailing_zeros 32 (suc m)))

unfoldable pub common_subclass : Job → RegClass → RegClass → Option RegClass
unfolding lowest class_at
common_subclass job a b = lowest (bit_and (class_at job a).mask (class_at job b).mask)
