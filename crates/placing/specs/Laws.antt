-- What is left behind when a register has been placed in each of the four ways. Assumes nothing.
use Rattle.std.specs.Prelude.{◌≡◌, Bool, get_or, replicate}
use Rattle.std.proofs.Math.Path.{sym, ap, subst}
use Rattle.std.proofs.Common.{◌∙◌, arith}
use Rattle.std.proofs.Math.Option.{Option, none, some}
use mathlib.Core.List.{List, [], ◌∷◌, ◌++◌}
use Prim.Native.Nat.{ℕ, ◌+◌, ◌-◌, ◌*◌, ◌≤◌, ◌<◌}
use Rattle.std.proofs.Math.ListN.{length, set, length-append}
use Rattle.std.specs.Float.Ieee.{Float, of_bits}
use Rattle.std.specs.Float.{binary32}
use Rattle.words.specs.Parts.{splice}
use Rattle.definition.specs.declared.ValueSet.{ValueSet}
use Rattle.definition.specs.declared.RegClass.{RegClass}
use Rattle.definition.specs.declared.VirtReg.{VirtReg}
use Rattle.definition.specs.declared.VirtRegGroup.{VirtRegGroup}
use Rattle.definition.specs.declared.ClassData.{ClassData}
use Rattle.definition.specs.declared.Use.{Use}
use Rattle.definition.specs.Types.{Job, HeldGroup, Held, Piece, Register, Mapped, State, vreg, vrgroup}
use Rattle.definition.specs.RegInfo.{class_at}
use Rattle.definition.specs.Lines.{hint_in}
use Rattle.definition.specs.LiveRange.{live_insts}
use Rattle.definition.specs.Weights.{weight_of}
use Rattle.definition.specs.Admit.{register_at, members_at, no_register}
use Rattle.definition.specs.Place.{pieces_in, uses_of_pieces, uses_of, segs_of, with_pieces, update, spread, least_weight, group_weight, first_from, alone_state, lead_state, join_state, merge_state}
use Rattle.virt_regs.specs.declared.OutLayout.{OutLayout}
use Rattle.virt_regs.specs.declared.Counts.{Counts}
use Rattle.virt_regs.specs.declared.RegisterRow.{RegisterRow}
use Rattle.words.specs.Part.{part, part_get, part_ahead}
use Rattle.virt_regs.specs.Each.{Each}
use Rattle.virt_regs.specs.Encoding.{group_base, tables_end, group_word, hint_word, register_words, register_row, counts_of, Weighs, Typed, Holds}
use Rattle.virt_regs.specs.Held.{held_long, fit_registers, fit_groups}
use Rattle.virt_regs.specs.Update.{length_update}
use Rattle.virt_regs.specs.Reads.{first_piece, first_use, first_held, count_held, member_lt, pieces_in_lem, span_in, holds_mapping}
use Rattle.vregs_write.specs.Written.{Written, holds_added}
use Rattle.vregs_write.specs.ChangeFlat.{member_in, spread_in, Spreadable}
use Rattle.vregs_write.specs.Change.{holds_spread, spread_able, length_spread, holds_member, holds_group}
use Rattle.vregs_write.specs.Ends.{ends_by, ends_le}
use Rattle.vregs_write.specs.Opened.{Opened}
use Rattle.vregs_write.specs.Merged.{holds_merged, merged_inserted}
use Rattle.vreg_weight.specs.Shown.{Shown, shown_written, shown_held}
use Rattle.vreg_weight.specs.Weighed.{Inside, BitsOf}
use Rattle.vreg_weight.specs.Members.{Members, members_held, members_written, least_same}
use Rattle.placing.specs.Ready.{Space, Weighed, Ready, Filled, Left, all_of, with_new, row_of, one_more, group_more, pieces_more}
use Rattle.placing.specs.Counted.{counts_alone, counts_lead, counts_join, counts_merge}
use Rattle.placing.specs.Lists.{spread_front, weight_pieces, pieces_new, typed_uses, typed_register}

-- ---- the members of a group are read off its row, which stores elsewhere leave

kept : (a e j : ℕ) (O O' : List ℕ) → part a e O' ≡ part a e O → j < e - a → get_or O' (a + j) 0 ≡ get_or O (a + j) 0
kept a e j O O' h l = sym (part_get a e j O' l) ∙ ap (λ (t : List ℕ). get_or t j 0) h ∙ part_get a e j O l

pub spreadable_kept : (ol : OutLayout) (g : VirtRegGroup) (O O' : List ℕ) → part (group_base ol) (tables_end ol) O' ≡ part (group_base ol) (tables_end ol) O → Spreadable ol g O → Spreadable ol g O'
unfolding member_in
spreadable_kept ol g O O' e s =
    let here = s.here in
    record {
      here = here;
      size = subst (λ (n : ℕ). n ≤ 8) (sym (kept (group_base ol) (tables_end ol) (g.0 * 9) O O' e (omega arith))) s.size;
      members = λ i l. subst (λ (n : ℕ). n ≤ ol.regs) (sym (kept (group_base ol) (tables_end ol) (g.0 * 9 + (i + 1)) O O' e (omega arith))) (s.members i l);
    }

-- after pieces and uses have been written
pub spreadable_written : (ol : OutLayout) (O O' : List ℕ) (st : State) (g : VirtRegGroup) (p u : ℕ) (ps : List Piece) (us : List Use) → Holds ol O st → Written ol O p u ps us O' → g.0 < length st.groups
    → Spreadable ol g O'
spreadable_written ol O O' st g p u ps us h w l = spreadable_kept ol g O O' (w.behind (group_base ol) (tables_end ol) (omega arith) (omega (arith, held_long h))) (spread_able ol O st h g l)

-- after a register's row
pub spreadable_row : (ol : OutLayout) (g : VirtRegGroup) (O O' : List ℕ) (v : ℕ) (row : RegisterRow) → O' ≡ splice O (v * 8) (register_words row) → v < ol.regs → tables_end ol ≤ length O
    → Spreadable ol g O → Spreadable ol g O'
spreadable_row ol g O O' v row e h l s =
    spreadable_kept ol g O O' (ap (λ (t : List ℕ). part (group_base ol) (tables_end ol) t) e ∙ part_ahead (group_base ol) (tables_end ol) (v * 8) O (register_words row) (omega arith) (omega arith)) s

-- ---- weights

weighs : (w : ℕ) (x : Float) → BitsOf w x → w ≤ 2139095040 → Weighs x
unfolding Weighs
weighs w x b h = (ap (λ (n : ℕ). of_bits binary32 n) (sym b.0) ∙ b.1, subst (λ (n : ℕ). n ≤ 2139095040) b.0 h)

-- what is known of w, read off the n pieces from piece p on
abbrev pub WeightFrom : Job → OutLayout → List ℕ → ℕ → ℕ → RegClass → ℕ → Type 0
WeightFrom J ol O p n c w =
    (u : ℕ) (ps : List Piece) → Shown ol O p u ps → length ps ≡ n → Inside J (uses_of (segs_of ps)) → 1 ≤ live_insts (segs_of ps) → live_insts (segs_of ps) ≤ 4096 → BitsOf w (weight_of J c (segs_of ps))

-- what is known of w, read off the rows of group g's members
abbrev pub LeastFrom : OutLayout → List ℕ → VirtRegGroup → ℕ → ℕ → ℕ → Type 0
LeastFrom ol O g i w₀ w = (st : State) → Members ol O st g → BitsOf w (least_weight st i 0 (members_at st g) (of_bits binary32 w₀))

module _ (J : Job) (ol : OutLayout) (O O₁ : List ℕ) (c : Counts) (np nu : ℕ) (hint : Bool) (st : State) (ps : List Piece) (r : Ready J ol O c np nu hint st ps O₁) (s : Space ol c np nu) where
  -- the weight of the pieces, read off their rows
  pub ready_weight : (k : RegClass) (w : ℕ) → WeightFrom J ol O₁ c.segs np k w → BitsOf w (weight_of J k (segs_of ps))
  ready_weight k w f =
      let shown : Shown ol O₁ c.segs c.uses ps =
      shown_written ol O O₁ c.segs c.uses ps r.written (held_long r.holds) (omega (arith, r.pieces, s.segs)) (omega (arith, r.uses, s.uses)) (typed_uses (uses_of (segs_of ps)) r.typed) in
      f c.uses ps shown r.pieces r.weighed.inside r.weighed.least r.weighed.most

  -- its row behind the registers held
  added : (vs : ValueSet) (k : RegClass) (x : Float) (go : Option VirtRegGroup) (i w : ℕ) (O₂ : List ℕ) → BitsOf w x → w ≤ 2139095040
      → O₂ ≡ splice O₁ (c.regs * 8) (register_words (row_of c vs k w (group_word go) i np hint))
      → Holds ol O₂ (record { registers = st.registers ++ (record { set = vs; class = k; weight = x; group = go; index = i; pieces = ps } ∷ []); groups = st.groups; mapping = st.mapping })
  added vs k x go i w O₂ b l e =
      let q : Register = record { set = vs; class = k; weight = x; group = go; index = i; pieces = ps } in
      let row : row_of c vs k w (group_word go) i np hint ≡ register_row c.segs q =
      λ t. record { set = vs; class = k; weight = b.0 t; group = group_word go; index = i; hint = hint_word (r.hinted t); first = c.segs; count = sym r.pieces t } in
      holds_added ol O O₁ O₂ st c q r.holds r.counts r.written (e ∙ ap (λ (y : RegisterRow). splice O₁ (c.regs * 8) (register_words y)) row)
      s.regs (omega (arith, r.pieces, s.segs)) (omega (arith, r.uses, s.uses)) (weighs w x b l) r.typed

  one_more_lem : one_more c np nu ≡ one_more c (length ps) (uses_of_pieces ps)
  one_more_lem = λ t. one_more c (sym r.pieces t) (sym r.uses t)

  regs_held : c.regs ≡ length st.registers
  regs_held = ap (λ (x : Counts). x.regs) r.counts

  groups_held : c.groups ≡ length st.groups
  groups_held = ap (λ (x : Counts). x.groups) r.counts

  -- ---- a register of no group

  pub left_alone : (vs : ValueSet) (k : RegClass) (h : Held) (w : ℕ) (n : Counts) (O₂ : List ℕ) → BitsOf w (weight_of J k (segs_of ps)) → w ≤ 2139095040 → h.class ≡ k
      → n ≡ one_more c np nu → O₂ ≡ splice O₁ (c.regs * 8) (register_words (row_of c vs k w 0 0 np hint)) → Left ol O₂ n (alone_state J vs h ps st)
  unfolding alone_state
  left_alone vs k h w n O₂ b l ek en e =
      let one = added vs k (weight_of J k (segs_of ps)) none 0 w O₂ b l e in
      let same : record { registers = st.registers ++ (record { set = vs; class = k; weight = weight_of J k (segs_of ps); group = none; index = 0; pieces = ps } ∷ []); groups = st.groups; mapping = st.mapping } ≡ alone_state J vs h ps st =
      λ t. record { registers = st.registers ++ (record { set = vs; class = sym ek t; weight = weight_of J (sym ek t) (segs_of ps); group = none; index = 0; pieces = ps } ∷ []); groups = st.groups; mapping = st.mapping } in
      record { holds = subst (λ (z : State). Holds ol O₂ z) same one; counts = en ∙ one_more_lem ∙ counts_alone J vs h ps st c r.counts }

  -- ---- a register that leads a new group

  pub left_lead : (vs : ValueSet) (k : RegClass) (h : Held) (hg : HeldGroup) (ms : List Mapped) (i w : ℕ) (d : ClassData) (n m : Counts) (O₂ O₃ : List ℕ)
      → BitsOf w (weight_of J k (segs_of ps)) → w ≤ 2139095040 → h.class ≡ k → hg.index ≡ i → c.groups < ol.groups → i < (class_at J k).size → (class_at J k).size ≤ 8
      → n ≡ one_more c np nu → O₂ ≡ splice O₁ (c.regs * 8) (register_words (row_of c vs k w (c.groups + 1) i np hint)) → d ≡ class_at J k
      → m ≡ group_more n → O₃ ≡ set (set O₂ (group_base ol + c.groups * 9) d.size) (group_base ol + (c.groups * 9 + (i + 1))) (c.regs + 1)
      → Left ol O₃ m (lead_state J vs h hg ps st ms)
  unfolding lead_state
  left_lead vs k h hg ms i w d n m O₂ O₃ b l ek ei fg hi hs en e ed em e₃ =
      let g : VirtRegGroup = vrgroup c.groups in
      let size : ℕ = (class_at J k).size in
      let q : Register = record { set = vs; class = k; weight = weight_of J k (segs_of ps); group = some g; index = i; pieces = ps } in
      let places : List (Option VirtReg) = set (replicate size none) i (some (vreg c.regs)) in
      let one = added vs k (weight_of J k (segs_of ps)) (some g) i w O₂ b l e in
      let here : c.regs < length (st.registers ++ (q ∷ [])) = omega (arith, regs_held, length-append st.registers (q ∷ [])) in
      let st₁ : State = record { registers = st.registers ++ (q ∷ []); groups = st.groups; mapping = st.mapping } in
      let st₂ : State = record { registers = st.registers ++ (q ∷ []); groups = st.groups ++ (places ∷ []); mapping = st.mapping } in
      let held : Holds ol O₃ st₂ =
      subst (λ (t : List ℕ). Holds ol t st₂) (sym (e₃ ∙ ap (λ (x : ClassData). set (set O₂ (group_base ol + c.groups * 9) x.size) (group_base ol + (c.groups * 9 + (i + 1))) (c.regs + 1)) ed))
      (holds_group ol O₂ st₁ one g size i (vreg c.regs) groups_held fg hs hi here) in
      let same : record { registers = st.registers ++ (q ∷ []); groups = st.groups ++ (places ∷ []); mapping = ms } ≡ lead_state J vs h hg ps st ms =
      λ t. record {
        registers = st.registers ++ (record { set = vs; class = sym ek t; weight = weight_of J (sym ek t) (segs_of ps); group = some (vrgroup (groups_held t)); index = sym ei t; pieces = ps } ∷ []);
        groups = st.groups ++ (set (replicate (class_at J (sym ek t)).size none) (sym ei t) (some (vreg (regs_held t))) ∷ []);
        mapping = ms;
      } in
      record {
        holds = subst (λ (z : State). Holds ol O₃ z) same (holds_mapping ol O₃ st₂ ms held);
        counts = em ∙ ap group_more (en ∙ one_more_lem) ∙ counts_lead J vs h hg ps st ms c r.counts;
      }

  -- ---- a register that joins a group

  pub left_join : (vs : ValueSet) (k : RegClass) (h : Held) (hg : HeldGroup) (g : VirtRegGroup) (i w₀ w : ℕ) (n : Counts) (O₂ O₃ O₄ : List ℕ)
      → BitsOf w₀ (weight_of J k (segs_of ps)) → LeastFrom ol O₁ g i w₀ w → w ≤ 2139095040 → h.class ≡ k → hg.index ≡ i → g.0 < length st.groups → i < length (members_at st g)
      → n ≡ one_more c np nu → O₂ ≡ splice O₁ (c.regs * 8) (register_words (row_of c vs k w (g.0 + 1) i np hint)) → O₃ ≡ spread_in ol k.0 w g O₂
      → O₄ ≡ set O₃ (group_base ol + (g.0 * 9 + (i + 1))) (c.regs + 1)
      → Left ol O₄ n (join_state J vs h hg g ps st)
  unfolding join_state group_weight members_at
  left_join vs k h hg g i w₀ w n O₂ O₃ O₄ b₀ lf l ek ei here hi en e₂ e₃ e₄ =
      let rs : List Register = st.registers in
      let ms : List (Option VirtReg) = members_at st g in
      let x : Float = least_weight st i 0 ms (weight_of J k (segs_of ps)) in
      let fit : g.0 < ol.groups = omega (arith, fit_groups r.holds) in
      let b : BitsOf w x =
      subst (λ (y : Float). BitsOf w (least_weight st i 0 ms y)) b₀.1
      (lf st
      (members_written ol O O₁ st g c.segs c.uses ps (uses_of (segs_of ps)) r.written fit
      (members_held ol O st g r.holds here))) in
      let q : Register = record { set = vs; class = k; weight = x; group = some g; index = i; pieces = ps } in
      let one = added vs k x (some g) i w O₂ b l e₂ in
      let st₂ : State = record { registers = rs ++ (q ∷ []); groups = st.groups; mapping = st.mapping } in
      let st₃ : State = record { registers = spread k x ms (rs ++ (q ∷ [])); groups = st.groups; mapping = st.mapping } in
      let st₄ : State = record { registers = spread k x ms (rs ++ (q ∷ [])); groups = set st.groups g.0 (set ms i (some (vreg c.regs))); mapping = st.mapping } in
      let held₃ : Holds ol O₃ st₃ = subst (λ (t : List ℕ). Holds ol t st₃) (sym e₃) (holds_spread ol O₂ st₂ one g here k x w b.0 (weighs w x b l)) in
      let there : c.regs < length (spread k x ms (rs ++ (q ∷ []))) = omega (arith, regs_held, length-append rs (q ∷ []), length_spread k x ms (rs ++ (q ∷ []))) in
      let held₄ : Holds ol O₄ st₄ = subst (λ (t : List ℕ). Holds ol t st₄) (sym e₄) (holds_member ol O₃ st₃ held₃ g i (vreg c.regs) here hi there) in
      let front : spread k x ms (rs ++ (q ∷ [])) ≡ spread k x ms rs ++ (q ∷ []) = spread_front k x ms rs (q ∷ []) (λ j v e. member_lt ol O st r.holds g j v here e) in
      let one₄ : st₄ ≡ record { registers = spread k x ms rs ++ (q ∷ []); groups = set st.groups g.0 (set ms i (some (vreg c.regs))); mapping = st.mapping } =
      λ t. record { registers = front t; groups = set st.groups g.0 (set ms i (some (vreg c.regs))); mapping = st.mapping } in
      let same : record { registers = spread k x ms rs ++ (q ∷ []); groups = set st.groups g.0 (set ms i (some (vreg c.regs))); mapping = st.mapping } ≡ join_state J vs h hg g ps st =
      λ t. record {
        registers =
            spread (sym ek t) (least_weight st (sym ei t) 0 ms (weight_of J (sym ek t) (segs_of ps))) ms rs
            ++ (record { set = vs; class = sym ek t; weight = least_weight st (sym ei t) 0 ms (weight_of J (sym ek t) (segs_of ps)); group = some g; index = sym ei t; pieces = ps } ∷ []);
        groups = set st.groups g.0 (set ms (sym ei t) (some (vreg (regs_held t))));
        mapping = st.mapping;
      } in
      record {
        holds = subst (λ (z : State). Holds ol O₄ z) (one₄ ∙ same) held₄;
        counts = en ∙ one_more_lem ∙ counts_join J vs h hg g ps st c r.counts;
      }

-- ---- pieces merged into a register

-- the gaps opened for them have been filled
pub filled : (J : Job) (ol : OutLayout) (O O₁ O₂ : List ℕ) (st : State) (c : Counts) (v : VirtReg) (k np nu : ℕ) (hint : Bool) (p u : ℕ) (new : List Piece) → Holds ol O st → c ≡ counts_of st
    → v.0 < length st.registers → k ≡ ends_by (first_from new) (register_at st v).pieces → Opened ol st c v k np nu hint p u O₁ → Written ol O₁ p u new (uses_of (segs_of new)) O₂
    → length new ≡ np → uses_of_pieces new ≡ nu → hint ≡ hint_in new → c.segs + np ≤ ol.segs → c.uses + nu ≤ ol.uses → Each Typed (uses_of (segs_of new)) → Weighed J (all_of v new st)
    → Filled J ol c np nu v st new O₂
filled J ol O O₁ O₂ st c v k np nu hint p u new h ec here ek op w en eu eh fp fu ty wd =
    let le : k ≤ length (register_at st v).pieces = subst (λ (n : ℕ). n ≤ length (register_at st v).pieces) (sym ek) (ends_le (first_from new) (register_at st v).pieces) in
    let cp : c.segs ≡ pieces_in st = ap (λ (x : Counts). x.segs) ec in
    record {
      holds =
          merged_inserted ol O₂ st v (first_from new) k new ek
          (holds_merged ol O O₁ O₂ st c v k np nu hint p u new h ec here le op w (sym en) (sym eu) eh fp fu (omega (arith, op.piece, pieces_in_lem ol O st h v here)) ty);
      counts = ec;
      here = here;
      pieces = en;
      uses = eu;
      weighed = wd;
    }

-- what is asked of the words then
pub filled_asks : (J : Job) (ol : OutLayout) (O : List ℕ) (c : Counts) (np nu : ℕ) (v : VirtReg) (st : State) (new : List Piece) (g : VirtRegGroup) → Filled J ol c np nu v st new O → g.0 < length st.groups
    → Spreadable ol g O × (v.0 < ol.regs) × (get_or O (v.0 * 8 + 6) 0 + get_or O (v.0 * 8 + 7) 0 ≤ ol.segs)
filled_asks J ol O c np nu v st new g f l =
    let there : v.0 < length (with_new v new st).registers = omega (arith, f.here, length_update (with_pieces (all_of v new st)) v.0 st.registers) in
    (spread_able ol O (with_new v new st) f.holds g l, omega (arith, fit_registers f.holds), span_in ol O (with_new v new st) f.holds v there)

-- the weight of all of its pieces, read off their rows
pub merge_weight : (J : Job) (ol : OutLayout) (O : List ℕ) (c : Counts) (np nu : ℕ) (v : VirtReg) (st : State) (new : List Piece) (k : RegClass) (p m w : ℕ) → Filled J ol c np nu v st new O
    → p ≡ get_or O (v.0 * 8 + 6) 0 → m ≡ get_or O (v.0 * 8 + 7) 0 → WeightFrom J ol O p m k w → BitsOf w (weight_of J k (segs_of (all_of v new st)))
unfolding register_at
merge_weight J ol O c np nu v st new k p m w fd ep em f =
    let rs : List Register = st.registers in
    let qs : List Piece = all_of v new st in
    let st₁ : State = with_new v new st in
    let held : Holds ol O st₁ = fd.holds in
    let there : v.0 < length st₁.registers = omega (arith, fd.here, length_update (with_pieces qs) v.0 rs) in
    let eq : (register_at st₁ v).pieces ≡ qs = pieces_new qs v.0 rs no_register fd.here in
    let wd : Weighed J (register_at st₁ v).pieces = subst (λ (t : List Piece). Weighed J t) (sym eq) fd.weighed in
    let shown : Shown ol O p (first_use st₁ (first_piece st₁ v)) (register_at st₁ v).pieces =
    subst (λ (t : ℕ). Shown ol O t (first_use st₁ (first_piece st₁ v)) (register_at st₁ v).pieces) (sym (ep ∙ first_held ol O st₁ held v there))
    (shown_held ol O st₁ v held there (typed_uses _ (typed_register st₁ v there held.typed))) in
    subst (λ (t : List Piece). BitsOf w (weight_of J k (segs_of t))) eq
    (f (first_use st₁ (first_piece st₁ v)) (register_at st₁ v).pieces shown (sym (em ∙ count_held ol O st₁ held v there)) wd.inside wd.least wd.most)

pub left_merge : (J : Job) (ol : OutLayout) (O O₂ : List ℕ) (c n : Counts) (np nu : ℕ) (v : VirtReg) (st : State) (new : List Piece) (k : RegClass) (h : Held) (hg : HeldGroup) (g : VirtRegGroup) (i w₀ w : ℕ)
    → Filled J ol c np nu v st new O → BitsOf w₀ (weight_of J k (segs_of (all_of v new st))) → LeastFrom ol O g i w₀ w → w ≤ 2139095040
    → h.class ≡ k → hg.index ≡ i → g.0 < length st.groups → n ≡ pieces_more c np nu → O₂ ≡ spread_in ol k.0 w g O → Left ol O₂ n (merge_state J h hg g v new st)
unfolding merge_state group_weight members_at
left_merge J ol O O₂ c n np nu v st new k h hg g i w₀ w fd b₀ lf l ek ei here en e₂ =
    let rs : List Register = st.registers in
    let ms : List (Option VirtReg) = members_at st g in
    let qs : List Piece = all_of v new st in
    let st₁ : State = with_new v new st in
    let held : Holds ol O st₁ = fd.holds in
    let x : Float = least_weight st i 0 ms (weight_of J k (segs_of qs)) in
    let b₁ : BitsOf w (least_weight st₁ i 0 ms (weight_of J k (segs_of qs))) = subst (λ (y : Float). BitsOf w (least_weight st₁ i 0 ms y)) b₀.1 (lf st₁ (members_held ol O st₁ g held here)) in
    let b : BitsOf w x = subst (λ (y : Float). BitsOf w y) (least_same st st₁ (λ a. weight_pieces qs v.0 a.0 rs no_register) i 0 ms (weight_of J k (segs_of qs))) b₁ in
    let st₂ : State = record { registers = spread k x ms (update (with_pieces qs) v.0 rs); groups = st.groups; mapping = st.mapping } in
    let held₂ : Holds ol O₂ st₂ = subst (λ (t : List ℕ). Holds ol t st₂) (sym e₂) (holds_spread ol O st₁ held g here k x w b.0 (weighs w x b l)) in
    let same : st₂ ≡ merge_state J h hg g v new st =
    λ t. record { registers = spread (sym ek t) (least_weight st (sym ei t) 0 ms (weight_of J (sym ek t) (segs_of qs))) ms (update (with_pieces qs) v.0 rs); groups = st.groups; mapping = st.mapping } in
    let counts : pieces_more c np nu ≡ pieces_more c (length new) (uses_of_pieces new) = λ t. pieces_more c (sym fd.pieces t) (sym fd.uses t) in
    record {
      holds = subst (λ (z : State). Holds ol O₂ z) same held₂;
      counts = en ∙ counts ∙ counts_merge J h hg g v new st c fd.counts fd.here;
    }
