-- Each arm of a plan: the weight of its pieces, and what is left. Assumes nothing.
use Rattle.std.specs.Prelude.{◌≡◌, refl, ℕ, ◌+◌, ◌*◌, ◌<◌, ◌≤◌, List, [], length, get_or}
use Rattle.std.proofs.Common.{sym, subst}
use Rattle.definition.specs.declared.ValueSet.{ValueSet}
use Rattle.definition.specs.declared.RegClass.{RegClass}
use Rattle.definition.specs.declared.VirtReg.{VirtReg}
use Rattle.definition.specs.declared.VirtRegGroup.{VirtRegGroup}
use Rattle.definition.specs.Types.{Job, Held, Piece, State}
use Rattle.definition.specs.RegInfo.{class_at}
use Rattle.definition.specs.Weights.{weight_of}
use Rattle.definition.specs.Admit.{members_at}
use Rattle.definition.specs.Place.{segs_of, or_else, alone_state, lead_state, join_state, merge_state}
use Rattle.virt_regs.specs.declared.OutLayout.{OutLayout}
use Rattle.virt_regs.specs.declared.Counts.{Counts}
use Rattle.vreg_weight.specs.Weighed.{BitsOf}
use Rattle.placing.specs.declared.row.Rows.{Rows}
use Rattle.placing.specs.Ready.{Ready, Filled, Left, all_of}
use Rattle.placing.specs.Laws.{WeightFrom, merge_weight}
use Rattle.placing.specs.declared.plan.Plan.{Plan}
use Rattle.placing.specs.declared.plan.Plan.TheVariants as plans
use Rattle.placing.specs.Plan.{held_at, maps_to, carry_out}
use Rattle.placing.specs.Filling.{Finishable, Filling, pieces_by, LeftBy}

module _ (J : Job) (ol : OutLayout) (k : RegClass) (O : List ℕ) (c : Counts) (n : Rows) (st : State) (ps : List Piece) (O₁ : List ℕ) (w : ℕ) where
  -- what is read off the rows of the register that is merged into is the weight of all its pieces
  pub weighed_merged : (q : Plan) (g : VirtRegGroup) (v : VirtReg) (i j : ℕ) → q ≡ plans.Merge g v i j
      → (p m : ℕ) → p ≡ get_or O₁ (v.0 * 8 + 6) 0 → m ≡ get_or O₁ (v.0 * 8 + 7) 0 → WeightFrom J ol O₁ p m k w
      → Filling J ol k O c n st ps O₁ q → BitsOf w (weight_of J k (segs_of (pieces_by st ps q)))
  weighed_merged q g v i j e p m ep em f =
      subst (λ (r : Plan). Filling J ol k O c n st ps O₁ r → BitsOf w (weight_of J k (segs_of (pieces_by st ps r)))) (sym e)
      (λ x. merge_weight J ol O₁ c n.pieces n.uses v st ps k p m w x.0 ep em f)

  module _ (vs : ValueSet) (h : Held) (O₂ : List ℕ) (m : Counts) (p : Plan) where
    -- what is left by plan q
    abbrev Arm : Plan → Type 0
    Arm q = Filling J ol k O c n st ps O₁ q → BitsOf w (weight_of J k (segs_of (pieces_by st ps q))) → LeftBy ol O₂ m (carry_out J vs h ps st q)

    pub arm_alone : p ≡ plans.Alone → (Ready J ol O c n.pieces n.uses n.hint st ps O₁ → BitsOf w (weight_of J k (segs_of ps)) → Left ol O₂ m (alone_state J vs h ps st)) → Arm p
    unfolding carry_out
    arm_alone e f = subst Arm (sym e) f

    pub arm_lead : (i : ℕ) → p ≡ plans.Lead i
        → (Ready J ol O c n.pieces n.uses n.hint st ps O₁ → i < (class_at J k).size → (class_at J k).size ≤ 8 → BitsOf w (weight_of J k (segs_of ps))
        → Left ol O₂ m (lead_state J vs h (held_at i) ps st (or_else (maps_to ps st) [])))
        → Arm p
    unfolding carry_out
    arm_lead i e f = subst Arm (sym e) (λ x b. f x.0 x.1 x.2 b)

    pub arm_join : (g : VirtRegGroup) (i : ℕ) → p ≡ plans.Join g i
        → (Ready J ol O c n.pieces n.uses n.hint st ps O₁ → g.0 < length st.groups → i < length (members_at st g) → BitsOf w (weight_of J k (segs_of ps)) → Left ol O₂ m (join_state J vs h (held_at i) g ps st))
        → Arm p
    unfolding carry_out
    arm_join g i e f = subst Arm (sym e) (λ x b. f x.0 x.1 x.2 b)

    pub arm_merge : (g : VirtRegGroup) (v : VirtReg) (i j : ℕ) → p ≡ plans.Merge g v i j
        → (Filled J ol c n.pieces n.uses v st ps O₁ → g.0 < length st.groups → BitsOf w (weight_of J k (segs_of (all_of v ps st))) → Left ol O₂ m (merge_state J h (held_at i) g v ps st)) → Arm p
    unfolding carry_out
    arm_merge g v i j e f = subst Arm (sym e) (λ x b. f x.0 x.1 b)
