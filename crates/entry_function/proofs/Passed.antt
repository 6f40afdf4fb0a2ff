-- What a job that passed test 4 has. Assumes nothing.
use Prim.Native.Nat.{ℕ, zero, suc, ◌≤◌, ◌<◌}
use native.Mathlib.Omega.{arith}
use mathlib.Core.Path.{◌≡◌}
use mathlib.Core.Bool.{Bool, true}
use mathlib.Core.List.{List, [], ◌∷◌}
use lib.ListN.{length, get_or}
use borrow.Author.Tests.{leb-true, ltb-true}
use Rattle.definition.specs.declared.ValueGroup.{ValueGroup}
use Rattle.definition.specs.declared.Value.{Value}
use Rattle.definition.specs.declared.Operand.{Operand}
use Rattle.definition.specs.Types.{Job}
use Rattle.definition.specs.Entry.{every, vgroup_ok, vgroup_tests, vgroup_values, operand_ok, operand_tests, insts, apart, same_place, function_ok, function_tests}
use Rattle.definition.proofs.Entries.{and_both}
use Rattle.values.specs.OperandRows.{no_operand, op_at}
use Rattle.entry_function.proofs.Scans.{conj_at}

every_at : {A : Type 0} (f : A → Bool) (xs : List A) (k : ℕ) (d : A) → every f xs ≡ true → k < length xs → f (get_or xs k d) ≡ true
unfolding every
every_at f [] k d e h = absurd (omega arith)
every_at f (x ∷ xs) zero d e h = (and_both (f x) (every f xs) e).0
every_at f (x ∷ xs) (suc k) d e h = every_at f xs k d (and_both (f x) (every f xs) e).1 (omega arith)

-- an operand is within the tables
pub record OperandFits (job : Job) (o : Operand) : Type 0 where
  pub inst : o.inst.0 < insts job
  pub slot : o.slot < 65536
  pub vgroup : o.vgroup.0 < length job.vgroups
  pub class : o.class.0 < length job.classes

module _ (job : Job) (p : function_ok job ≡ true) where
  pub passed_apart : apart same_place job.operands ≡ true
  unfolding function_ok
  passed_apart = conj_at (function_tests job) 4 p (omega arith)

  pub passed_operands : every (operand_ok job) job.operands ≡ true
  unfolding function_ok
  passed_operands = conj_at (function_tests job) 3 p (omega arith)

  pub passed_vgroups : every (vgroup_ok job) job.vgroups ≡ true
  unfolding function_ok
  passed_vgroups = conj_at (function_tests job) 2 p (omega arith)

  pub operand_fits : (k : ℕ) → k < length job.operands → OperandFits job (op_at job.operands k)
  unfolding operand_ok
  operand_fits k h =
      let o = op_at job.operands k in
      let e = every_at (operand_ok job) job.operands k no_operand passed_operands h in
      record {
        inst = ltb-true o.inst.0 (insts job) (conj_at (operand_tests job o) 0 e (omega arith));
        slot = ltb-true o.slot 65536 (conj_at (operand_tests job o) 1 e (omega arith));
        vgroup = ltb-true o.vgroup.0 (length job.vgroups) (conj_at (operand_tests job o) 2 e (omega arith));
        class = ltb-true o.class.0 (length job.classes) (conj_at (operand_tests job o) 3 e (omega arith));
      }

  -- a value group has at most eight members
  pub members_few : (g : ValueGroup) → g.0 < length job.vgroups → length (vgroup_values job g) ≤ 8
  unfolding vgroup_ok vgroup_values
  members_few g h =
      let ms : List Value = get_or job.vgroups g.0 [] in
      leb-true (length ms) 8 (conj_at (vgroup_tests job ms) 1 (every_at (vgroup_ok job) job.vgroups g.0 [] passed_vgroups h) (omega arith))
