-- What the operand of a group use says. Assumes nothing.
use mathlib.Core.Path.{◌≡◌, refl, sym, ap, ap₂, subst, ◌∙◌}
use mathlib.Core.Bool.{true}
use mathlib.Core.List.{List, []}
use Prim.Native.Nat.{ℕ, ◌+◌, ◌*◌, ◌≤◌, ◌<◌}
use native.Mathlib.Omega.{arith}
use lib.ListN.{length, get_or}
use borrow.Author.Tests.{eqb-true}
use Rattle.definition.specs.declared.Inst.{Inst}
use Rattle.definition.specs.declared.Value.{Value}
use Rattle.definition.specs.declared.ValueSet.{ValueSet}
use Rattle.definition.specs.declared.Operand.{Operand}
use Rattle.definition.specs.declared.VirtRegGroup.{VirtRegGroup}
use Rattle.definition.specs.Types.{Job, inst}
use Rattle.definition.specs.Admit.{mapped_at, vgroup_at, sets_of, sets_at}
use Rattle.definition.specs.Entry.{some_is, apart, same_place}
use Rattle.definition.proofs.Entries.{and_both}
use Rattle.function.specs.Blocks.{blocks_at}
use Rattle.values.specs.ValueRows.{values_at, vgroup_row, vgroups_at}
use Rattle.values.proofs.Members.{group_row_at}
use Rattle.std.specs.Prelude.{Option, Some, None}
use Rattle.values.specs.OperandRows.{operand_row, op_at, is_at, last_place, vgroup_found}
use Rattle.values.specs.Chains.{Under}
use Rattle.values.proofs.Rows.{long, row_at}
use Rattle.values.proofs.Only.{found_at, none_at, vgroup_found_lem}
use Rattle.values.proofs.Twice.{never}
use Rattle.job.specs.declared.Layout.{Layout}
use Rattle.job.specs.Job.{job_by, job_of}
use Rattle.virt_regs.specs.Encoding.{group_word}
use Rattle.constraints.specs.Places.{option_of}
use Rattle.constraints.proofs.Places.{group_same}
use Rattle.job.specs.declared.work.WorkLayout.{WorkLayout}
use Rattle.constraints.specs.declared.OperandGroup.{OperandGroup}
use Rattle.constraints.specs.Ready.{operands_in, HasOperand, OperandIs, Says, Said}

-- ---- the tables of a job

pub job_blocks : (W : List ℕ) (lay : Layout) → (job_of W lay).blocks ≡ blocks_at W lay.blocks.at lay.blocks.n
unfolding job_of job_by
job_blocks W lay = refl

pub job_values : (W : List ℕ) (lay : Layout) → (job_of W lay).values ≡ values_at W lay.values.at lay.values.n
unfolding job_of job_by
job_values W lay = refl

pub job_vgroups : (W : List ℕ) (lay : Layout) → (job_of W lay).vgroups ≡ vgroups_at W lay.vgroups.at lay.vgroups.n
unfolding job_of job_by
job_vgroups W lay = refl

pub job_operands : (W : List ℕ) (lay : Layout) → (job_of W lay).operands ≡ operands_in W lay
unfolding job_of job_by
job_operands W lay = refl

-- ---- operand k

module _ (W : List ℕ) (lay : Layout) (k : ℕ) (o : Operand) (l : k < lay.operands.n) (e : o ≡ operand_row W (lay.operands.at + k * 4)) where
  is_operand : o ≡ op_at (operands_in W lay) k
  is_operand = e ∙ row_at W lay.operands.at lay.operands.n k l

  pub group_known : ((j : ℕ) → j < lay.operands.n → (op_at (operands_in W lay) j).vgroup.0 < lay.vgroups.n) → o.vgroup.0 < lay.vgroups.n
  group_known f = rw is_operand (f k l)

  pub operand_says : (K : List ℕ) (wl : WorkLayout) (m : Option VirtRegGroup) (x : List ValueSet)
      → ((j : ℕ) → j < lay.operands.n → (op_at (operands_in W lay) j).vgroup.0 < lay.vgroups.n) → get_or K (wl.mapping + k) 0 ≡ group_word (option_of m)
      → ((job : Job) → job.values ≡ values_at W lay.values.at lay.values.n → x ≡ sets_of job (vgroup_row W (lay.vgroups.at + o.vgroup.0 * 9)))
      → OperandIs W K lay wl k (record { mapped = m; sets = x })
  operand_says K wl m x f em ex =
      record {
        mapped = em;
        sets =
            ex (job_of W lay) (job_values W lay)
            ∙ ap (λ (ms : List Value). sets_of (job_of W lay) ms) (group_row_at W lay.vgroups.at lay.vgroups.n o.vgroup.0 (group_known f))
            ∙ ap (λ (r : Operand). sets_of (job_of W lay) (get_or (vgroups_at W lay.vgroups.at lay.vgroups.n) r.vgroup.0 [])) is_operand;
      }

-- ---- the operand at a place

module _ (W : List ℕ) (lay : Layout) (p : Inst) (s : ℕ) where
  found_here : (f : Option ℕ) → f ≡ last_place (operands_in W lay) lay.operands.n p.0 s → f ≡ last_place (operands_in W lay) (length (operands_in W lay)) p.0 s
  found_here f e = e ∙ ap (λ (n : ℕ). last_place (operands_in W lay) n p.0 s) (sym (long W lay.operands.at lay.operands.n))

  -- the index has it
  pub found_known : (f : Option ℕ) (k : ℕ) → f ≡ last_place (operands_in W lay) lay.operands.n p.0 s → f ≡ Some k → k < lay.operands.n
  found_known f k e q = (found_at (operands_in W lay) lay.operands.n p.0 s k (sym e ∙ q)).0

  pub said_found : (K : List ℕ) (wl : WorkLayout) (f : Option ℕ) (k : ℕ) (r : OperandGroup) → apart same_place (operands_in W lay) ≡ true → f ≡ last_place (operands_in W lay) lay.operands.n p.0 s → f ≡ Some k
      → OperandIs W K lay wl k r → Said W K lay wl p s (Some r)
  unfolding sets_at Said
  said_found K wl f k r a e q i =
      let at = found_at (operands_in W lay) lay.operands.n p.0 s k (sym e ∙ q) in
      let b = and_both _ _ at.1 in
      let ei : (op_at (operands_in W lay) k).inst ≡ p = ap inst (eqb-true _ _ b.0) in
      let es : (op_at (operands_in W lay) k).slot ≡ s = eqb-true _ _ b.1 in
      let g : vgroup_at (job_of W lay).operands p s ≡ (op_at (operands_in W lay) k).vgroup.0 =
      ap (λ (l : List Operand). vgroup_at l p s) (job_operands W lay)
      ∙ vgroup_found_lem (operands_in W lay) p s a
      ∙ ap (λ (x : Option ℕ). vgroup_found (operands_in W lay) x) (sym (found_here f e) ∙ q) in
      record {
        mapped =
            λ ms m.
            group_same (option_of r.mapped) (mapped_at ms p s)
            (sym i.mapped
            ∙ m.is k (omega (arith, at.0, long W lay.operands.at lay.operands.n))
            ∙ ap₂ (λ (x : Inst) (y : ℕ). group_word (mapped_at ms x y)) ei es);
        sets =
            i.sets
            ∙ ap₂ (λ (gs : List (List Value)) (n : ℕ). sets_of (job_of W lay) (get_or gs n [])) (sym (job_vgroups W lay)) (sym g);
      }

  -- an operand that is there is found
  pub said_nothing : (f : Option ℕ) → f ≡ last_place (operands_in W lay) lay.operands.n p.0 s → f ≡ None → HasOperand (job_of W lay) p s → ⊥
  said_nothing f e q h =
      let t : some_is (is_at p.0 s) (operands_in W lay) ≡ true = ap (λ (l : List Operand). some_is (is_at p.0 s) l) (sym (job_operands W lay)) ∙ h in
      never (sym t ∙ none_at (operands_in W lay) p.0 s (sym (found_here f e) ∙ q))

-- none is at an instruction that the index does not have
pub past_none : (W : List ℕ) (lay : Layout) (i s n : ℕ) → Under n (operands_in W lay) → n ≤ i → None ≡ last_place (operands_in W lay) lay.operands.n i s
past_none W lay i s n u l = go (last_place (operands_in W lay) lay.operands.n i s) refl
  where
    go : (f : Option ℕ) → last_place (operands_in W lay) lay.operands.n i s ≡ f → None ≡ f
    go (Some k) e =
        let at = found_at (operands_in W lay) lay.operands.n i s k e in
        let ei : (op_at (operands_in W lay) k).inst.0 ≡ i = eqb-true _ _ (and_both _ _ at.1).0 in
        let b : (op_at (operands_in W lay) k).inst.0 < n = u.under k (omega (arith, at.0, long W lay.operands.at lay.operands.n)) in
        absurd (omega arith)
    go None e = refl

-- what is said is there
pub said_some : (W K : List ℕ) (lay : Layout) (wl : WorkLayout) (p : Inst) (s : ℕ) (r : Option OperandGroup) (g : OperandGroup) → Said W K lay wl p s r → r ≡ Some g → Says W K lay wl p s g
unfolding Said
said_some W K lay wl p s r g h e = subst (λ (x : Option OperandGroup). Said W K lay wl p s x) e h

pub said_none : (W K : List ℕ) (lay : Layout) (wl : WorkLayout) (p : Inst) (s : ℕ) (r : Option OperandGroup) → Said W K lay wl p s r → r ≡ None → ⊥
unfolding Said
said_none W K lay wl p s r h e = subst (λ (x : Option OperandGroup). Said W K lay wl p s x) e h
