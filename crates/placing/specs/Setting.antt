-- A plan made for the pieces of any source, and what follows from it for each callee. Assumes nothing.
use Rattle.std.specs.Prelude.{◌≡◌, refl, ℕ, ◌+◌, ◌^◌, ◌≤◌, ◌<◌, Bool, true, false, not, Option, None, Some, is_none, List, [], length, Ok, Err}
use Rattle.std.proofs.Common.{sym, ap, ◌∙◌, subst, arith}
use Rattle.std.proofs.Math.Option as math
use Rattle.definition.specs.declared.ValueSet.{ValueSet}
use Rattle.definition.specs.declared.Use.{Use}
use Rattle.definition.specs.declared.VirtReg.{VirtReg}
use Rattle.definition.specs.declared.VirtRegGroup.{VirtRegGroup}
use Rattle.definition.specs.Types.{Job, Piece, Mapped, State, vrgroup}
use Rattle.definition.specs.Admit.{register_at, members_at}
use Rattle.definition.specs.Place.{pieces_in, uses_in, uses_of_pieces, uses_of, segs_of, map_uses, or_else, with_pieces, first_from, group_weight, alone_state, lead_state, join_state, merge_state, place}
use Rattle.definition.specs.Place as placing
use Rattle.job.specs.declared.Layout.{Layout}
use Rattle.virt_regs.specs.declared.OutLayout.{OutLayout}
use Rattle.virt_regs.specs.declared.Counts.{Counts}
use Rattle.virt_regs.specs.Encoding.{tables_end, room_of, counts_of, Holds}
use Rattle.virt_regs.specs.Held.{fit_registers, fit_groups}
use Rattle.virt_regs.specs.Reads.{pieces_in_lem, span_in}
use Rattle.vregs_write.specs.Written.{Written}
use Rattle.vregs_write.specs.Ends.{ends_le}
use Rattle.vregs_write.specs.declared.insert.Gaps.{Gaps}
use Rattle.vregs_write.specs.Ask.{Ask, first_use_le}
use Rattle.vregs_write.specs.Opened.{Opened}
use Rattle.job.specs.declared.work.WorkLayout.{WorkLayout}
use Rattle.constraints.specs.declared.Held.{Held}
use Rattle.constraints.specs.Held.{held_of}
use Rattle.constraints.specs.Ready.{operands_in, Mapping}
use Rattle.pieces.specs.Maps.{Outside, MapsTo, Maps}
use Rattle.pieces.proofs.Kept.{outside_none}
use Rattle.vreg_weight.specs.Fair.{Fair, fair_insts, fair_inserted}
use Rattle.emit.specs.declared.tally.Tally.{Tally}
use Rattle.emit.specs.Told.{Told}
use Rattle.placing.specs.declared.row.Rows.{Rows}
use Rattle.placing.specs.Ready.{Space, RowsOf, Ready, Filled, all_of}
use Rattle.placing.specs.Room.{room_counts, space}
use Rattle.placing.specs.Laws.{spreadable_written, filled, filled_asks}
use Rattle.placing.specs.declared.end.NotPlaced.{NotPlaced}
use Rattle.placing.specs.declared.end.NotPlaced.TheVariants as not_placed
use Rattle.placing.specs.EndEnds.{Placed, Sane, Ends, ends_by, ends_done, ends_stopped, ends_full, sane_at, sane_added, sane_update, sane_spread}
use Rattle.placing.specs.Held.{HeldFits}
use Rattle.placing.specs.Weighed.{fair_stored, fair_weighed, ready_fair}
use Rattle.placing.specs.declared.plan.Plan.{Plan}
use Rattle.placing.specs.declared.plan.Plan.TheVariants as plans
use Rattle.placing.specs.Plan.{held_at, maps_to, plan_from, plan_of, carry_out}
use Rattle.placing.specs.Asked as plan
use Rattle.placing.specs.Asked.{leads, Free}
use Rattle.placing.specs.PlanEnds.{placed_by}
use Rattle.placing.specs.Planned.{place_planned}
use Rattle.placing.specs.Way.{Grouped, MergeWay, Way, Planned, planned_way, plan_agrees}
use Rattle.placing.specs.Filling.{Openable, Behind, Opens, Merging, Finishable, Filling, Tells, LeftBy}

-- rows of the tables are counted by words
abbrev pub Small : OutLayout → Type 0
Small ol = (ol.regs < 2 ^ 32) × (ol.segs < 2 ^ 32) × (ol.uses < 2 ^ 32) × (ol.groups + 1 < 2 ^ 32)

-- the words O hold st, with the counts c, which what is held fits; the pieces ps of a source can be weighed
pub record Setting (J : Job) (ol : OutLayout) (O : List ℕ) (c : Counts) (h : Held) (st : State) (ps : List Piece) : Type 0 where
  pub holds : Holds ol O st
  pub counts : c ≡ counts_of st
  pub fits : HeldFits J st h
  pub sane : Sane J st
  pub fair : Fair J 4096 ps

-- ---- what a walk over the pieces told

module _ (J : Job) (ol : OutLayout) (O : List ℕ) (p u : ℕ) (ps : List Piece) (O' : List ℕ) (t : Tally) where
  pub tells : Told J ol O p u ps O' t → Tells J ps t
  tells x = record { sum = x.sum; insts = x.insts }

  pub touched : Fair J 4096 ps → Told J ol O p u ps O' t → (1 ≤ t.insts) × (t.insts ≤ 4096)
  touched f x = let i = fair_insts J 4096 ps f in (omega (arith, x.insts, i.0), omega (arith, x.insts, i.1))

-- ---- what follows from what is held alone

-- a register to merge into can be looked at
pub can_decide : (J : Job) (ol : OutLayout) (O : List ℕ) (c : Counts) (h : Held) (st : State) (ps : List Piece) → Setting J ol O c h st ps → (n : ℕ) → tables_end ol ≤ n → plan.Asked n O ol h
can_decide J ol O c h st ps s n l = record {
  long = l;
  target = λ g v eg ev. let here = s.fits.target g v eg ev in (omega (arith, here, fit_registers s.holds), span_in ol O st s.holds v here);
}

-- ---- by the plan

module _ (twice : Bool) (J : Job) (ol : OutLayout) (O : List ℕ) (c : Counts) (h : Held) (st : State) (ps : List Piece) (s : Setting J ol O c h st ps) (sm : Small ol) (n : Rows) (f : RowsOf ps n) where
  -- ---- a register more, behind the rows in use

  new_space : (g : ℕ) → placing.has_room (room_of ol) st 1 g ps ≡ true → Space ol c n.pieces n.uses
  new_space g e = space ol st c g n.pieces n.uses ps s.counts f.pieces f.uses e sm.0 sm.1 sm.2

  behind_room : (r : Gaps) (O₁ : List ℕ) → Space ol c n.pieces n.uses → Behind O c r O₁ → (r.pieces + n.pieces ≤ ol.segs) × (r.uses + n.uses ≤ ol.uses) × (r.uses + n.uses < 4294967296)
  behind_room r O₁ k b = (omega (arith, k.segs, b.piece), omega (arith, k.uses, b.use'), omega (arith, k.small.2, b.use'))

  behind_ready : (r : Gaps) (O₁ O₂ : List ℕ) → Behind O c r O₁ → Written ol O₁ r.pieces r.uses ps (uses_of (segs_of ps)) O₂ → Ready J ol O c n.pieces n.uses n.hint st ps O₂
  behind_ready r O₁ O₂ b w =
      let w₁ : Written ol O c.segs c.uses ps (uses_of (segs_of ps)) O₂ =
      subst (λ (t : List ℕ). Written ol t c.segs c.uses ps (uses_of (segs_of ps)) O₂) b.same
      (subst (λ (m : ℕ). Written ol O₁ c.segs m ps (uses_of (segs_of ps)) O₂) b.use' (subst (λ (m : ℕ). Written ol O₁ m r.uses ps (uses_of (segs_of ps)) O₂) b.piece w)) in
      ready_fair J ol O O₂ c n.pieces n.uses n.hint st ps s.holds s.counts w₁ f.pieces f.uses f.hinted s.fair

  groups_fit : c.groups + 1 < 2 ^ 32
  groups_fit = let e : c.groups ≡ length st.groups = ap (λ (x : Counts). x.groups) s.counts in omega (arith, sm.3, fit_groups s.holds)

  -- ---- into gaps

  module _ (g : VirtRegGroup) (v : VirtReg) (i k : ℕ) (e : placing.has_room (room_of ol) st 0 0 ps ≡ true) (w : MergeWay h ps st g v i k) where
    here : v.0 < length st.registers
    here = s.fits.target w.grouped.group v w.grouped.held w.target

    group_here : g.0 < length st.groups
    group_here = (s.fits.group w.grouped.group g w.grouped.held w.grouped.mapped).0

    before : k ≤ length (register_at st v).pieces
    before = omega (arith, w.place, ends_le (first_from ps) (register_at st v).pieces)

    rooms : (c.regs + 0 ≤ ol.regs) × (c.segs + n.pieces ≤ ol.segs) × (c.uses + n.uses ≤ ol.uses) × (c.groups + 0 ≤ ol.groups)
    rooms = room_counts ol st c 0 0 n.pieces n.uses ps s.counts f.pieces f.uses e

    gap_ask : Ask ol O c v k n.pieces n.uses
    gap_ask = record {
      st = st;
      holds = s.holds;
      counts = s.counts;
      here = here;
      before = before;
      segs = rooms.1;
      uses = rooms.2;
      small = (omega (arith, rooms.1, sm.1), omega (arith, rooms.2, sm.2));
    }

    gap_room : (p u : ℕ) (O₁ : List ℕ) → Opened ol st c v k n.pieces n.uses n.hint p u O₁ → (p + n.pieces ≤ ol.segs) × (u + n.uses ≤ ol.uses) × (u + n.uses < 4294967296)
    gap_room p u O₁ op =
        let cp : c.segs ≡ pieces_in st = ap (λ (x : Counts). x.segs) s.counts in
        let cu : c.uses ≡ uses_in st = ap (λ (x : Counts). x.uses) s.counts in
        let lp : p ≤ c.segs = omega (arith, op.piece, before, pieces_in_lem ol O st s.holds v here) in
        let lu : u ≤ c.uses = omega (arith, op.use', first_use_le st p) in
        (omega (arith, rooms.1), omega (arith, rooms.2), omega (arith, rooms.2, sm.2))

    fair_all : Fair J 4096 (all_of v ps st)
    fair_all = fair_inserted J 4096 ps (register_at st v).pieces s.fair (sane_at J st v s.sane here) w.apart

    gap_filled : (p u : ℕ) (O₁ O₂ : List ℕ) → Opened ol st c v k n.pieces n.uses n.hint p u O₁ → Written ol O₁ p u ps (uses_of (segs_of ps)) O₂ → Filled J ol c n.pieces n.uses v st ps O₂
    gap_filled p u O₁ O₂ op wr =
        filled J ol O O₁ O₂ st c v k n.pieces n.uses n.hint p u ps s.holds s.counts here w.place op wr f.pieces f.uses f.hinted rooms.1 rooms.2 (fair_stored J 4096 ps s.fair)
        (fair_weighed J (all_of v ps st) fair_all)

    gap_merging : (O₂ : List ℕ) → Filled J ol c n.pieces n.uses v st ps O₂ → Merging ol O₂ c n g v
    gap_merging O₂ fd =
        let a = filled_asks J ol O₂ c n.pieces n.uses v st ps g fd group_here in
        record { members = a.0; here = a.1; segs = omega (arith, rooms.1, sm.1); uses = omega (arith, rooms.2, sm.2); rows = a.2 }

  -- ---- each callee

  pub can_open : (p : Plan) → Planned twice (room_of ol) h ps st p → Openable ol O c n p
  can_open plans.Alone w = tt
  can_open (plans.Lead i) w = tt
  can_open (plans.Join g i) w = tt
  can_open (plans.Merge g v i k) w = gap_ask g v i k w.room' w.way
  can_open (plans.Stop x) w = tt
  can_open plans.Full w = tt

  -- where the source writes, there is room
  pub can_write : (p : Plan) (r : Gaps) (O₁ : List ℕ) → Planned twice (room_of ol) h ps st p → Opens ol st O c n r O₁ p
      → (r.pieces + n.pieces ≤ ol.segs) × (r.uses + n.uses ≤ ol.uses) × (r.uses + n.uses < 4294967296)
  can_write plans.Alone r O₁ w o = behind_room r O₁ (new_space 0 w.room') o
  can_write (plans.Lead i) r O₁ w o = behind_room r O₁ (new_space 1 w.room') o
  can_write (plans.Join g i) r O₁ w o = behind_room r O₁ (new_space 0 w.room') o
  can_write (plans.Merge g v i k) r O₁ w o = gap_room g v i k w.room' w.way r.pieces r.uses O₁ (o (here g v i k w.room' w.way) (before g v i k w.room' w.way))
  can_write (plans.Stop x) r O₁ w o = absurd w.way
  can_write plans.Full r O₁ w o = absurd w.way

  -- when it has written, the register can be weighed
  pub is_filling : (p : Plan) (r : Gaps) (O₁ O₂ : List ℕ) → Planned twice (room_of ol) h ps st p → Opens ol st O c n r O₁ p → Written ol O₁ r.pieces r.uses ps (uses_of (segs_of ps)) O₂
      → Filling J ol h.class O c n st ps O₂ p
  is_filling plans.Alone r O₁ O₂ w o wr = behind_ready r O₁ O₂ o wr
  is_filling (plans.Lead i) r O₁ O₂ w o wr =
      let q = w.way.grouped in
      let x = s.fits.index q.group q.held in
      (behind_ready r O₁ O₂ o wr, omega (arith, x.0, q.index), x.1)
  is_filling (plans.Join g i) r O₁ O₂ w o wr =
      let q = w.way in
      let x = s.fits.group q.group g q.held q.mapped in
      (behind_ready r O₁ O₂ o wr, x.0, omega (arith, x.1, q.index))
  is_filling (plans.Merge g v i k) r O₁ O₂ w o wr =
      (gap_filled g v i k w.room' w.way r.pieces r.uses O₁ O₂ (o (here g v i k w.room' w.way) (before g v i k w.room' w.way)) wr, group_here g v i k w.room' w.way)
  is_filling (plans.Stop x) r O₁ O₂ w o wr = absurd w.way
  is_filling plans.Full r O₁ O₂ w o wr = absurd w.way

  -- and finished
  pub can_finish : (p : Plan) (O₂ : List ℕ) → Planned twice (room_of ol) h ps st p → Filling J ol h.class O c n st ps O₂ p → Finishable ol O₂ c n p
  can_finish plans.Alone O₂ w x = new_space 0 w.room'
  can_finish (plans.Lead i) O₂ w x =
      let k = room_counts ol st c 1 1 n.pieces n.uses ps s.counts f.pieces f.uses w.room' in
      (new_space 1 w.room', omega (arith, k.3), groups_fit, omega (arith, x.1, x.2))
  can_finish (plans.Join g i) O₂ w x =
      let q = w.way in
      let y = s.fits.index q.group q.held in (
        new_space 0 w.room',
        spreadable_written ol O O₂ st g _ _ ps _ s.holds x.0.written x.1,
        omega (arith, x.1, sm.3, fit_groups s.holds),
        omega (arith, y.0, y.1, q.index),
      )
  can_finish (plans.Merge g v i k) O₂ w x = gap_merging g v i k w.room' w.way O₂ x.0
  can_finish (plans.Stop y) O₂ w x = absurd w.way
  can_finish plans.Full O₂ w x = absurd w.way

-- ---- the operands mapped before the plan, where a new group is to be made

-- K₁ are the words of the work slice, K before: if a new group is to be made, the group operands of the uses us are mapped to it, or b says that one would be mapped twice
pub record MapStep (W K : List ℕ) (lay : Layout) (wl : WorkLayout) (h : Held) (g : ℕ) (us : List Use) (b : Bool) (K₁ : List ℕ) : Type 0 where
  pub outside : Outside lay wl K K₁
  pub idle : leads h.group ≡ false → K₁ ≡ K
  pub maps : leads h.group ≡ true → Maps W K lay wl (map_uses (vrgroup g) us) b K₁

module _ (W K : List ℕ) (lay : Layout) (wl : WorkLayout) (h : Held) (g : ℕ) (us : List Use) (b : Bool) where
  pub step_idle : leads h.group ≡ false → MapStep W K lay wl h g us b K
  step_idle e = record { outside = outside_none lay wl K; idle = λ _. refl; maps = λ x. absurd (let z : ◌≡◌ {A = ℕ} 0 1 = cc in omega arith) }

  pub step_maps : (K₁ : List ℕ) → leads h.group ≡ true → Maps W K lay wl (map_uses (vrgroup g) us) b K₁ → MapStep W K lay wl h g us b K₁
  step_maps K₁ e m = record { outside = m.outside; idle = λ x. absurd (let z : ◌≡◌ {A = ℕ} 0 1 = cc in omega arith); maps = λ _. m }

-- the mapping that the plan leaves
abbrev pub mapping_by : List Piece → State → Plan → List Mapped
mapping_by ps st plans.Alone = st.mapping
mapping_by ps st (plans.Lead i) = or_else (maps_to ps st) []
mapping_by ps st (plans.Join g i) = st.mapping
mapping_by ps st (plans.Merge g v i k) = st.mapping
mapping_by ps st (plans.Stop x) = st.mapping
mapping_by ps st plans.Full = st.mapping

-- a new group is made where none is mapped to
leads_by : (h : Held) (m : Option VirtRegGroup) (i : ℕ) (q : Grouped h m i) → leads h.group ≡ is_none m
leads_by h m i q = ap leads q.held ∙ ap is_none q.mapped

module _ (W K : List ℕ) (lay : Layout) (wl : WorkLayout) (h : Held) (g : ℕ) (ps : List Piece) (b : Bool) (K₁ : List ℕ) (m : MapStep W K lay wl h g (uses_of (segs_of ps)) b K₁)
    (st : State) (eg : g ≡ length st.groups) (mp : Mapping K wl.mapping (operands_in W lay) st.mapping) where
  said : leads h.group ≡ true → MapsTo W lay wl K₁ b (maps_to ps st)
  unfolding maps_to
  said l = subst (λ (n : ℕ). MapsTo W lay wl K₁ b (map_uses (vrgroup n) (uses_of (segs_of ps)) st.mapping)) eg ((m.maps l).answers st.mapping mp)

  pub step_free : Free h b ps st
  unfolding MapsTo
  step_free l = go (maps_to ps st) (said l)
    where
      go : (x : math.Option (List Mapped)) → MapsTo W lay wl K₁ b x → not b ≡ placing.is_none x
      go math.none k = ap not k
      go (math.some ms) k = ap not k.0

  idle_mapped : leads h.group ≡ false → Mapping K₁ wl.mapping (operands_in W lay) st.mapping
  idle_mapped e = subst (λ (t : List ℕ). Mapping t wl.mapping (operands_in W lay) st.mapping) (sym (m.idle e)) mp

  pub step_mapped : (p : Plan) → Way (placing.is_none (maps_to ps st)) h ps st p → Mapping K₁ wl.mapping (operands_in W lay) (mapping_by ps st p)
  unfolding MapsTo
  step_mapped plans.Alone w = idle_mapped (ap leads w)
  step_mapped (plans.Lead i) w = go (maps_to ps st) w.free (said (leads_by h None i w.grouped))
    where
      go : (x : math.Option (List Mapped)) → placing.is_none x ≡ false → MapsTo W lay wl K₁ b x → Mapping K₁ wl.mapping (operands_in W lay) (or_else x [])
      go math.none e k = absurd (let z : ◌≡◌ {A = ℕ} 0 1 = cc in omega arith)
      go (math.some ms) e k = k.1
  step_mapped (plans.Join f i) w = idle_mapped (leads_by h (Some f) i w)
  step_mapped (plans.Merge f v i k) w = idle_mapped (leads_by h (Some f) i w.grouped)
  step_mapped (plans.Stop x) w = absurd w
  step_mapped plans.Full w = absurd w

-- ---- how it ends

module _ (J : Job) (ol : OutLayout) (W : List ℕ) (lay : Layout) (wl : WorkLayout) (K O₂ K₁ : List ℕ) (vs : ValueSet) (h : Held) (ps : List Piece) (st : State) (r : Placed) (out : Outside lay wl K K₁) where
  -- by the plan, as the definition's `place`
  as_placed : (p : Plan) → p ≡ plan_of (room_of ol) (held_of h) ps st → Ends J ol W lay wl K O₂ K₁ r (carry_out J vs (held_of h) ps st p) → Ends J ol W lay wl K O₂ K₁ r (place J (room_of ol) vs (held_of h) ps st)
  as_placed p e x = ends_by J ol W lay wl K O₂ K₁ r _ _ (ap (λ (q : Plan). carry_out J vs (held_of h) ps st q) e ∙ sym (place_planned J (room_of ol) vs (held_of h) ps st)) x

  ends_refused : (p : Plan) (e : NotPlaced) → placed_by p ≡ Err e → r ≡ Err e → Ends J ol W lay wl K O₂ K₁ r (carry_out J vs (held_of h) ps st p)
  unfolding carry_out
  ends_refused (plans.Stop x) e w q = ends_stopped J ol W lay wl K O₂ K₁ r out x (let z : e ≡ not_placed.Stopped x = cc in q ∙ ap Err z)
  ends_refused plans.Full e w q = ends_full J ol W lay wl K O₂ K₁ r out (let z : e ≡ not_placed.Full = cc in q ∙ ap Err z)
  ends_refused plans.Alone e w q = absurd (let z : ◌≡◌ {A = ℕ} 0 1 = cc in omega arith)
  ends_refused (plans.Lead i) e w q = absurd (let z : ◌≡◌ {A = ℕ} 0 1 = cc in omega arith)
  ends_refused (plans.Join g i) e w q = absurd (let z : ◌≡◌ {A = ℕ} 0 1 = cc in omega arith)
  ends_refused (plans.Merge g v i k) e w q = absurd (let z : ◌≡◌ {A = ℕ} 0 1 = cc in omega arith)

  module _ (twice : Bool) (O : List ℕ) (c m : Counts) (s : Setting J ol O c h st ps) (sm : Small ol) (n : Rows) (f : RowsOf ps n) (q : r ≡ Ok m) where
    ends_carried : (p : Plan) → Planned twice (room_of ol) h ps st p → Mapping K₁ wl.mapping (operands_in W lay) (mapping_by ps st p) → LeftBy ol O₂ m (carry_out J vs (held_of h) ps st p)
        → Ends J ol W lay wl K O₂ K₁ r (carry_out J vs (held_of h) ps st p)
    unfolding carry_out alone_state lead_state join_state merge_state Sane
    ends_carried plans.Alone w mp l =
        ends_done J ol W lay wl K O₂ K₁ r out m _ q (record { counts = l.counts; stands = record { tables = l.holds; mapped = mp }; sane = sane_added J st.registers _ s.sane s.fair })
    ends_carried (plans.Lead i) w mp l =
        ends_done J ol W lay wl K O₂ K₁ r out m _ q (record { counts = l.counts; stands = record { tables = l.holds; mapped = mp }; sane = sane_added J st.registers _ s.sane s.fair })
    ends_carried (plans.Join g i) w mp l =
        ends_done J ol W lay wl K O₂ K₁ r out m _ q
        (record {
          counts = l.counts;
          stands = record { tables = l.holds; mapped = mp };
          sane = sane_added J _ _ (sane_spread J (held_of h).class (group_weight J (held_of h) (held_at i) (members_at st g) ps st) (members_at st g) st.registers s.sane) s.fair;
        })
    ends_carried (plans.Merge g v i k) w mp l =
        ends_done J ol W lay wl K O₂ K₁ r out m _ q
        (record {
          counts = l.counts;
          stands = record { tables = l.holds; mapped = mp };
          sane =
              sane_spread J (held_of h).class _ (members_at st g) _
              (sane_update J (with_pieces (all_of v ps st)) v.0 st.registers (λ x y. fair_all twice J ol O c h st ps s sm n f g v i k w.room' w.way) s.sane);
        })
    ends_carried (plans.Stop x) w mp l = absurd w.way
    ends_carried plans.Full w mp l = absurd w.way

-- ---- decide, write, finish

module _ (J : Job) (ol : OutLayout) (W : List ℕ) (lay : Layout) (wl : WorkLayout) (K O K₁ : List ℕ) (vs : ValueSet) (h : Held) (c : Counts) (ps : List Piece) (b : Bool)
    (m : MapStep W K lay wl h c.groups (uses_of (segs_of ps)) b K₁) (st : State) (s : Setting J ol O c h st ps) (mp : Mapping K wl.mapping (operands_in W lay) st.mapping)
    (p : Plan) (ep : p ≡ plan_from (not b) (room_of ol) (held_of h) ps st) where
  groups_held : c.groups ≡ length st.groups
  groups_held = ap (λ (x : Counts). x.groups) s.counts

  agreed : p ≡ plan_of (room_of ol) (held_of h) ps st
  unfolding plan_of
  agreed = ep ∙ plan_agrees (not b) (placing.is_none (maps_to ps st)) (room_of ol) h ps st (step_free W K lay wl h c.groups ps b K₁ m st groups_held mp)

  -- a stop or a full table
  pub ends_not : (O₂ : List ℕ) (r : Placed) (e : NotPlaced) → placed_by p ≡ Err e → r ≡ Err e → Ends J ol W lay wl K O₂ K₁ r (place J (room_of ol) vs (held_of h) ps st)
  ends_not O₂ r e w q = as_placed J ol W lay wl K O₂ K₁ vs h ps st r m.outside p agreed (ends_refused J ol W lay wl K O₂ K₁ vs h ps st r m.outside p e w q)

  -- a register
  pub ends_made : Small ol → (n : Rows) (f : RowsOf ps n) (O₂ : List ℕ) (r : Placed) (k : Counts) → placed_by p ≡ Ok tt → LeftBy ol O₂ k (carry_out J vs (held_of h) ps st p)
      → r ≡ Ok k → Ends J ol W lay wl K O₂ K₁ r (place J (room_of ol) vs (held_of h) ps st)
  unfolding plan_of
  ends_made sm n f O₂ r k w l q =
      let t : Bool = placing.is_none (maps_to ps st) in
      let d : Planned t (room_of ol) h ps st p = planned_way t (room_of ol) h ps st p agreed w in
      as_placed J ol W lay wl K O₂ K₁ vs h ps st r m.outside p agreed
      (ends_carried J ol W lay wl K O₂ K₁ vs h ps st r m.outside t O c k s sm n f q p d (step_mapped W K lay wl h c.groups ps b K₁ m st groups_held mp p d.way) l)
