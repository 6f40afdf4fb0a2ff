-- The rows of the operand table, and the operand at an instruction and slot. Assumes nothing.
use Rattle.std.specs.Prelude.{ℕ, zero, suc, ◌+◌, Bool, false, cond, ◌&&◌, List, eqb, ltb, length, get_or, Option, Some, None, is_some}
use Rattle.words.specs.RowsAt.{rows_at}
use Rattle.definition.specs.declared.Value.{Value}
use Rattle.definition.specs.declared.RegClass.{RegClass}
use Rattle.definition.specs.declared.Operand.{Operand}
use Rattle.definition.specs.Types.{Job, inst, cls, val}
use Rattle.definition.specs.Entry.{vgroup_values}

-- the operand whose row begins at word i
unfoldable pub operand_row : List ℕ → ℕ → Operand
operand_row W i = record { inst = inst (get_or W i 0); slot = get_or W (i + 1) 0; vgroup = record { 0 = get_or W (i + 2) 0 }; class = cls (get_or W (i + 3) 0) }

-- n operands from word `at` on
unfoldable pub operands_at : List ℕ → ℕ → ℕ → List Operand
operands_at W at n = rows_at operand_row W at 4 n

abbrev pub no_operand : Operand
no_operand = record { inst = inst 0; slot = 0; vgroup = record { 0 = 0 }; class = cls 0 }

abbrev pub op_at : List Operand → ℕ → Operand
op_at os k = get_or os k no_operand

-- an operand is at instruction i and slot s
abbrev pub is_at : ℕ → ℕ → Operand → Bool
is_at i s o = eqb o.inst.0 i && eqb o.slot s

-- the last of the first n operands that is at instruction i and slot s
unfoldable pub last_place : List Operand → ℕ → ℕ → ℕ → Option ℕ
last_place os zero i s = None
last_place os (suc k) i s = cond (is_at i s (op_at os k)) (Some k) (last_place os k i s)

-- operand k's place is that of an operand before it
unfoldable pub taken_before : List Operand → ℕ → Bool
unfolding last_place
taken_before os k = is_some (last_place os k (op_at os k).inst.0 (op_at os k).slot)

-- what is left to test of a group use when its operand is known: the operand's class is the use's, and its group has value v at place j
abbrev pub fits_use : Job → Value → RegClass → ℕ → Operand → Bool
fits_use job v c j o =
    eqb o.class.0 c.0 && (ltb j (length (vgroup_values job o.vgroup)) && eqb (get_or (vgroup_values job o.vgroup) j (val 0)).0 v.0)

abbrev pub fits_found : Job → Value → RegClass → ℕ → Option ℕ → Bool
fits_found job v c j (Some k) = fits_use job v c j (op_at job.operands k)
fits_found job v c j None = false

-- the number of the found operand's value group
abbrev pub vgroup_found : List Operand → Option ℕ → ℕ
vgroup_found os (Some k) = (op_at os k).vgroup.0
vgroup_found os None = 0
