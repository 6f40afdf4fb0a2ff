-- The ways through the test of a use's kind. Assumes nothing.
use Prim.Native.Nat.{ℕ, ◌+◌, ◌*◌, ◌≤◌, ◌<◌}
use native.Mathlib.Omega.{arith}
use mathlib.Core.Path.{◌≡◌, refl, sym, ap, ◌∙◌}
use mathlib.Core.Bool.{Bool, true, false, ◌&&◌}
use mathlib.Core.List.{List}
use lib.Dec.{ltb, eqb}
use lib.ListN.{length, get_or}
use borrow.Author.Tests.{lt-ltb, le-ltb, ne_eqb, eqb-true, eqb-false}
use Rattle.std.specs.Prelude.{Option, Some, None}
use Rattle.definition.specs.declared.Inst.{Inst}
use Rattle.definition.specs.declared.Value.{Value}
use Rattle.definition.specs.declared.Operand.{Operand}
use Rattle.definition.specs.Types.{inst, val, cls}
use Rattle.definition.specs.Entry.{function_ok, group_use_ok, kind_ok}
use Rattle.values.specs.ValueRows.{vgroup_row}
use Rattle.values.specs.declared.operands.Chains.{Chains}
use Rattle.values.specs.OperandRows.{operand_row, op_at, last_place, fits_use, fits_found}
use Rattle.values.specs.Chains.{operands_of}
use Rattle.values.proofs.Rows as operand_rows
use Rattle.values.proofs.Only.{found_at, found_of, group_use_found}
use Rattle.uses.specs.Rows.{raw_kind, raw_row}
use Rattle.job.specs.declared.Layout.{Layout}
use Rattle.job.specs.Job.{raw_job}
use Rattle.entry_function.proofs.Tables.{raw_operands, operands_count, vgroups_count, classes_count, regs_count, members_row}
use Rattle.entry_function.proofs.Tests.{operands_of_lem}
use Rattle.entry_function.proofs.Passed.{operand_fits, members_few, passed_apart}
use Rattle.entry_uses.specs.KindTests.{class_use_ok, tied_use_ok, Ready}

-- ---- a group use's operand

module _ (W : List ℕ) (lay : Layout) (p : function_ok (raw_job W lay) ≡ true) (k : ℕ) (h : k < lay.operands.n) (o : Operand) (r : o ≡ operand_row W (lay.operands.at + k * 4)) where
  operand_is : op_at (raw_job W lay).operands k ≡ o
  operand_is =
      ap (λ (os : List Operand). op_at os k) (raw_operands W lay) ∙ sym (r ∙ operand_rows.row_at W lay.operands.at lay.operands.n k h)

  group_known : o.vgroup.0 < length (raw_job W lay).vgroups
  group_known = rw (← operand_is) (operand_fits (raw_job W lay) p k (omega (arith, operands_count W lay))).vgroup

  -- its value group is there and has at most eight members
  pub group_there : o.vgroup.0 < lay.vgroups.n
  group_there = omega (arith, group_known, vgroups_count W lay)

  pub group_few : length (vgroup_row W (lay.vgroups.at + o.vgroup.0 * 9)) ≤ 8
  group_few = rw (← members_row W lay o.vgroup group_there) (members_few (raw_job W lay) p o.vgroup group_known)

  module _ (v : Value) (class j : ℕ) where
    on_row : (t : Bool) → t ≡ fits_use (raw_job W lay) v (cls class) j o → t ≡ fits_use (raw_job W lay) v (cls class) j (operand_row W (lay.operands.at + k * 4))
    on_row t e = e ∙ ap (λ (x : Operand). fits_use (raw_job W lay) v (cls class) j x) r

    pub fits_class : eqb o.class.0 class ≡ false → false ≡ fits_use (raw_job W lay) v (cls class) j (operand_row W (lay.operands.at + k * 4))
    fits_class n = on_row false (rw n)

    module _ (e : eqb o.class.0 class ≡ true) (n : ℕ) (q : n ≡ length (vgroup_row W (lay.vgroups.at + o.vgroup.0 * 9))) where
      pub fits_index : n ≤ j → false ≡ fits_use (raw_job W lay) v (cls class) j (operand_row W (lay.operands.at + k * 4))
      fits_index l = on_row false (rw (e, members_row W lay o.vgroup group_there, ← q, le-ltb j n l))

      pub fits_by : j < n → (m : Value) → m ≡ get_or (vgroup_row W (lay.vgroups.at + o.vgroup.0 * 9)) j (val 0)
          → eqb m.0 v.0 ≡ fits_use (raw_job W lay) v (cls class) j (operand_row W (lay.operands.at + k * 4))
      fits_by l m s =
          on_row (eqb m.0 v.0) (rw (e, members_row W lay o.vgroup group_there, ← q, lt-ltb j n l) (ap (λ (x : Value). eqb x.0 v.0) s))

module _ (N w : ℕ) (W K : List ℕ) (lay : Layout) (c : Chains) (x : Ready N w W K lay c) (v : Value) (p : Inst) (s class j : ℕ) (f : Option ℕ)
    (e : f ≡ last_place (operands_of W c) c.count p.0 s) where
  found : f ≡ last_place (raw_job W lay).operands (length (raw_job W lay).operands) p.0 s
  found = e ∙ found_of W c (raw_job W lay) p.0 s (raw_operands W lay ∙ operands_of_lem W lay c w x.index)

  group_use : group_use_ok (raw_job W lay) v p s (cls class) j ≡ fits_found (raw_job W lay) v (cls class) j f
  group_use =
      group_use_found (raw_job W lay) v p s (cls class) j (passed_apart (raw_job W lay) x.passed)
      ∙ ap (λ (g : Option ℕ). fits_found (raw_job W lay) v (cls class) j g) (sym found)

  pub found_below : (k : ℕ) → f ≡ Some k → k < lay.operands.n
  found_below k q = omega (arith, (found_at (operands_of W c) c.count p.0 s k (sym e ∙ q)).0, x.index.count)

  pub group_at : (k : ℕ) → f ≡ Some k → (t : Bool) → t ≡ fits_use (raw_job W lay) v (cls class) j (operand_row W (lay.operands.at + k * 4))
      → t ≡ group_use_ok (raw_job W lay) v p s (cls class) j
  group_at k q t u =
      let r : operand_row W (lay.operands.at + k * 4) ≡ op_at (raw_job W lay).operands k =
      operand_rows.row_at W lay.operands.at lay.operands.n k (found_below k q) ∙ ap (λ (os : List Operand). op_at os k) (sym (raw_operands W lay)) in
      u ∙ ap (λ (o : Operand). fits_use (raw_job W lay) v (cls class) j o) r
      ∙ sym (group_use ∙ ap (λ (g : Option ℕ). fits_found (raw_job W lay) v (cls class) j g) q)

  pub group_none : f ≡ None → false ≡ group_use_ok (raw_job W lay) v p s (cls class) j
  group_none q = sym (group_use ∙ ap (λ (g : Option ℕ). fits_found (raw_job W lay) v (cls class) j g) q)

-- ---- the kinds by their numbers

one_of_two : {A : Type 0} (k n : ℕ) → n ≤ k → k < n + 2 → (k ≡ n → A) → (k ≡ n + 1 → A) → A
one_of_two {A} k n l h f g = go (eqb k n) refl
  where
    go : (b : Bool) → eqb k n ≡ b → A
    go true e = f (eqb-true k n e)
    go false e = let ne : k ≡ n → ⊥ = eqb-false k n e in g (omega arith)

module _ (W : List ℕ) (lay : Layout) (v : Value) (i k a b x d : ℕ) (p : Inst) (e : k ≡ get_or W i 0) (ep : p ≡ inst (get_or W (i + 1) 0)) (ea : a ≡ get_or W (i + 2) 0)
    (eb : b ≡ get_or W (i + 3) 0) (ex : x ≡ get_or W (i + 4) 0) (ed : d ≡ get_or W (i + 5) 0) where
  kind_is : (n : ℕ) → k ≡ n → kind_ok (raw_job W lay) v (raw_row W i).pos (raw_row W i).kind ≡ kind_ok (raw_job W lay) v p (raw_kind n a b x d)
  unfolding raw_row
  kind_is n q = rw (← e, ← ea, ← eb, ← ex, ← ed, ← ep, q)

  pub kind_fixed : k < 2 → ltb a lay.regs.n ≡ kind_ok (raw_job W lay) v (raw_row W i).pos (raw_row W i).kind
  unfolding kind_ok raw_kind
  kind_fixed h = one_of_two k 0 (omega arith) h (λ q. sym (kind_is 0 q ∙ rw (regs_count W lay))) (λ q. sym (kind_is 1 q ∙ rw (regs_count W lay)))

  pub kind_tied : k ≡ 2 → (t : Bool) → t ≡ tied_use_ok lay.classes.n a b x d → t ≡ kind_ok (raw_job W lay) v (raw_row W i).pos (raw_row W i).kind
  unfolding kind_ok raw_kind tied_use_ok class_use_ok
  kind_tied q t f = f ∙ sym (kind_is 2 q ∙ rw (classes_count W lay) (turn (ltb a 65536) (ltb b 65536) (ltb x lay.classes.n) (ltb d 256)))
    where
      turn : (s u c j : Bool) → s && u && c && j ≡ u && (j && (s && c))
      turn true true true true = refl
      turn true true true false = refl
      turn true true false true = refl
      turn true true false false = refl
      turn true false c j = refl
      turn false true c true = refl
      turn false true c false = refl
      turn false false c j = refl

  pub kind_classes : 4 ≤ k → k < 6 → (t : Bool) → t ≡ class_use_ok lay.classes.n a b → t ≡ kind_ok (raw_job W lay) v (raw_row W i).pos (raw_row W i).kind
  unfolding kind_ok raw_kind class_use_ok
  kind_classes l h t f =
      one_of_two k 4 l h (λ q. f ∙ sym (kind_is 4 q ∙ rw (classes_count W lay))) (λ q. f ∙ sym (kind_is 5 q ∙ rw (classes_count W lay)))

  pub kind_groups : 6 ≤ k → k < 8 → (t : Bool) → t ≡ group_use_ok (raw_job W lay) v p a (cls b) x → t ≡ kind_ok (raw_job W lay) v (raw_row W i).pos (raw_row W i).kind
  unfolding kind_ok raw_kind
  kind_groups l h t f = one_of_two k 6 l h (λ q. f ∙ sym (kind_is 6 q)) (λ q. f ∙ sym (kind_is 7 q))

  pub kind_params : 8 ≤ k → k < 10 → a < 4294967296 → true ≡ kind_ok (raw_job W lay) v (raw_row W i).pos (raw_row W i).kind
  unfolding kind_ok raw_kind
  kind_params l h m = one_of_two k 8 l h (λ q. sym (kind_is 8 q ∙ lt-ltb a 4294967296 m)) (λ q. sym (kind_is 9 q))

  pub kind_conflict : k ≡ 3 → false ≡ kind_ok (raw_job W lay) v (raw_row W i).pos (raw_row W i).kind
  unfolding kind_ok raw_kind
  kind_conflict q = sym (kind_is 3 q)

  pub kind_past : 10 ≤ k → false ≡ kind_ok (raw_job W lay) v (raw_row W i).pos (raw_row W i).kind
  unfolding kind_ok raw_kind
  kind_past h =
      let other : (n : ℕ) → n < 10 → eqb k n ≡ false = λ n l. ne_eqb k n (λ q. omega arith) in
      sym (kind_is k refl ∙ rw (other 0 (omega arith), other 1 (omega arith), other 2 (omega arith), other 4 (omega arith), other 5 (omega arith), other 6 (omega arith), other 7 (omega arith), other 8 (omega arith), other 9 (omega arith)))
