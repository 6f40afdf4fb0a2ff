-- The counts of the state that each way of placing makes. Assumes nothing.
use Rattle.std.specs.Prelude.{◌≡◌, List, [], ◌∷◌, ◌++◌, ◌<◌, length, set, replicate, Float}
use Rattle.std.proofs.Common.{sym, ◌∙◌}
use Rattle.std.proofs.Math.Option.{Option, none, some}
use Rattle.definition.specs.declared.ValueSet.{ValueSet}
use Rattle.definition.specs.declared.VirtReg.{VirtReg}
use Rattle.definition.specs.declared.VirtRegGroup.{VirtRegGroup}
use Rattle.definition.specs.Types.{Job, HeldGroup, Held, Piece, Register, Mapped, State, vreg, vrgroup}
use Rattle.definition.specs.RegInfo.{class_at}
use Rattle.definition.specs.Weights.{weight_of}
use Rattle.definition.specs.Admit.{members_at}
use Rattle.definition.specs.Place.{pieces_in, uses_in, uses_of_pieces, segs_of, spread, group_weight, first_from, made, alone_state, lead_state, join_state, merge_state}
use Rattle.virt_regs.specs.declared.Counts.{Counts}
use Rattle.virt_regs.specs.Encoding.{counts_of}
use Rattle.vregs_write.specs.Written.{counts_added}
use Rattle.vregs_write.specs.Change.{counts_spread, counts_member, counts_group}
use Rattle.vregs_write.specs.Merged.{counts_merged}
use Rattle.placing.specs.Ready.{all_of, with_new, one_more, group_more, pieces_more}

pub counts_alone : (J : Job) (vs : ValueSet) (h : Held) (ps : List Piece) (st : State) (c : Counts) → c ≡ counts_of st → one_more c (length ps) (uses_of_pieces ps) ≡ counts_of (alone_state J vs h ps st)
unfolding alone_state
counts_alone J vs h ps st c ec = counts_added st c (made vs h (weight_of J h.class (segs_of ps)) none 0 ps) ec

pub counts_lead : (J : Job) (vs : ValueSet) (h : Held) (hg : HeldGroup) (ps : List Piece) (st : State) (ms : List Mapped) (c : Counts) → c ≡ counts_of st
    → group_more (one_more c (length ps) (uses_of_pieces ps)) ≡ counts_of (lead_state J vs h hg ps st ms)
unfolding lead_state pieces_in uses_in
counts_lead J vs h hg ps st ms c ec =
    let q : Register = made vs h (weight_of J h.class (segs_of ps)) (some (vrgroup (length st.groups))) hg.index ps in
    counts_group (record { registers = st.registers ++ (q ∷ []); groups = st.groups; mapping = ms }) (one_more c (length ps) (uses_of_pieces ps))
    (set (replicate (class_at J h.class).size none) hg.index (some (vreg (length st.registers)))) (counts_added st c q ec)

pub counts_join : (J : Job) (vs : ValueSet) (h : Held) (hg : HeldGroup) (g : VirtRegGroup) (ps : List Piece) (st : State) (c : Counts) → c ≡ counts_of st
    → one_more c (length ps) (uses_of_pieces ps) ≡ counts_of (join_state J vs h hg g ps st)
unfolding join_state
counts_join J vs h hg g ps st c ec =
    let ms : List (Option VirtReg) = members_at st g in
    let w : Float = group_weight J h hg ms ps st in
    let q : Register = made vs h w (some g) hg.index ps in
    let st₁ : State = record { registers = spread h.class w ms st.registers; groups = st.groups; mapping = st.mapping } in
    let st₂ : State = record { registers = spread h.class w ms st.registers ++ (q ∷ []); groups = st.groups; mapping = st.mapping } in
    counts_added st₁ c q (ec ∙ sym (counts_spread h.class w ms st)) ∙ sym (counts_member st₂ g (set ms hg.index (some (vreg (length st.registers)))))

pub counts_merge : (J : Job) (h : Held) (hg : HeldGroup) (g : VirtRegGroup) (v : VirtReg) (new : List Piece) (st : State) (c : Counts) → c ≡ counts_of st → v.0 < length st.registers
    → pieces_more c (length new) (uses_of_pieces new) ≡ counts_of (merge_state J h hg g v new st)
unfolding merge_state
counts_merge J h hg g v new st c ec here =
    counts_merged st c v (first_from new) new ec here
    ∙ sym (counts_spread h.class (group_weight J h hg (members_at st g) (all_of v new st) st) (members_at st g) (with_new v new st))
