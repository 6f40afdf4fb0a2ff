-- Every piece stands in a register of its value's set: a group's members and the operands mapped to it share value sets, so a merge stays in the set. Assumes nothing.
use mathlib.Core.Path.{◌≡◌, refl, ap, sym, ◌∙◌, subst}
use mathlib.Core.Logic.{◌⊎◌, inl, inr}
use Prim.Native.Nat.{ℕ, zero, suc, ◌+◌, ◌-◌, ◌≤◌, ◌<◌}
use native.Mathlib.Omega.{arith}
use mathlib.Core.Bool.{Bool, true, false, cond}
use mathlib.Core.Option.{Option, none, some, some-injective}
use mathlib.Core.List.{List, [], ◌∷◌, ◌++◌, map}
use lib.ListN.{length, get_or, set, replicate, length-append, get_or-append, length-set}
use lib.Seq.{get_or-append-add, get_or-set_same, get_or-set_other}
use lib.Dec.{ltb, eqb}
use lib.Ieee.{Float}
use borrow.Author.Tests.{ltb-true, ltb-false, eqb-false, eq-eqb, ne_eqb}
use Rattle.definition.specs.Types.{Inst, Value, ValueSet, RegClass, VirtReg, VirtRegGroup, UseKind, Use, Segment, Job, Room, HeldGroup, Held, Piece, Register, Mapped, State, MappedTwice, Overlap, done, val, vset, vreg, vrgroup}
use Rattle.definition.specs.RegInfo.{class_at, common_subclass, set_of}
use Rattle.definition.specs.Uses.{slot_of}
use Rattle.definition.specs.Weights.{weight_of}
use Rattle.definition.specs.Admit.{admit, admit_class, admit_group, admit_kind, at_place, fresh, group_fits, guard, in_group, mapped_at, mapping_fits, members_at, narrowed, no_register, register_at, scan, sets_at, sets_of, through, vgroup_at}
use Rattle.definition.specs.Place.{alone, alone_state, first_from, group_weight, has_room, inserted, is_none, join, join_state, last_to, lead, lead_state, made, map_uses, merge, merge_state, or_else, overlaps, place, place_by, place_group, segs_of, spread, update, uses_of, with_pieces, with_weight, empty}
use Rattle.definition.specs.Build.{Result, build, build_sets, runs, same_set}
use Rattle.definition.specs.Entry.{every, function_ok, group_use_ok, vgroup_values, uses_ok}
use Rattle.definition.proofs.Places.{All, all_append, all_get_d, all_map, bind_some, bind_done, gate_done, room_done, update_length}
use Rattle.definition.proofs.Entries.{every_all}
use Rattle.definition.proofs.Scans.{scan_step}
use Rattle.definition.proofs.Tables.{nth, same_group, nth_left, AllMapped, mapped_found, map_all, or_empty, operand_at, vgroup_at_lem, all_inserted, piece_uses, guarded, fits_parts, KindIs, kind_cases, uses_are}
use Rattle.definition.proofs.Runs.{SegOk, PieceOk, RunOk, runs_all, sets_kept}
use Rattle.definition.proofs.Rises.{AllOf, Rise}
use Rattle.definition.proofs.Accepted.{group_operand}

-- the pieces of a register are of values of its set
abbrev pub InSet : Job → Register → Type 0
InSet job r = All (λ p. set_of job p.seg.value ≡ r.set) r.pieces

-- a group use's index names a member of the set u
abbrev IndexIn : Job → ValueSet → Inst → ℕ → RegClass → ℕ → Type 0
IndexIn job u p s c i = get_or (sets_at job p s) i (vset 0) ≡ u

abbrev pub KindIn : Job → ValueSet → Inst → UseKind → Type 0
KindIn job u p k = KindIs (IndexIn job u p) k

abbrev pub UseIn : Job → ValueSet → Use → Type 0
UseIn job u w = KindIn job u w.pos w.kind

abbrev pub ValueIn : Job → ValueSet → Value → Type 0
ValueIn job u v = set_of job v ≡ u

-- an operand that is mapped to group g, one of n groups, has the value sets of g
abbrev Meets : Job → ℕ → (VirtRegGroup → List ValueSet) → Inst → ℕ → VirtRegGroup → Type 0
Meets job n σ i s g = (g.0 < n) × (sets_at job i s ≡ σ g)

-- σ g: the value sets of group g, place by place
pub record Right (job : Job) (st : State) (σ : VirtRegGroup → List ValueSet) : Type 0 where
  pub own_sets : All (InSet job) st.registers
  pub members : (g : VirtRegGroup) (j : ℕ) (v : VirtReg) → get_or (members_at st g) j none ≡ some v → (v.0 < length st.registers) × ((nth st.registers v).set ≡ get_or (σ g) j (vset 0))
  pub maps : AllMapped (Meets job (length st.groups) σ) st.mapping

-- ---- what is held

abbrev place_of : State → Option VirtRegGroup → ℕ → Option VirtReg
place_of st none i = none
place_of st (some g) i = get_or (members_at st g) i none

abbrev GroupRight : State → (VirtRegGroup → List ValueSet) → ValueSet → Option VirtReg → Option HeldGroup → Type 0
GroupRight st σ u t none = t ≡ none
GroupRight st σ u t (some hg) =
    (t ≡ place_of st hg.mapped hg.index) × ((g : VirtRegGroup) → hg.mapped ≡ some g → (g.0 < length st.groups) × (hg.sets ≡ σ g)) × (get_or hg.sets hg.index (vset 0) ≡ u)

abbrev SetsIs : Option HeldGroup → List ValueSet → Type 0
SetsIs none xs = ⊥
SetsIs (some hg) xs = hg.sets ≡ xs

abbrev Persists : Held → Held → Type 0
Persists h g = (xs : List ValueSet) → SetsIs h.group xs → SetsIs g.group xs

-- a group use is of an operand with the sets held
abbrev Agrees : Job → Option HeldGroup → Inst → UseKind → Type 0
Agrees job o p k = (s : ℕ) → slot_of k ≡ some s → SetsIs o (sets_at job p s)

module _ (job : Job) (st : State) (σ : VirtRegGroup → List ValueSet) (ok : Right job st σ) (u : ValueSet) where
  abbrev HeldRight : Held → Type 0
  HeldRight h = GroupRight st σ u h.target h.group

  abbrev Next : Held → Held → Inst → UseKind → Type 0
  Next h g p k = HeldRight g × Persists h g × Agrees job g.group p k

  -- the target held before is none, or the place that is now meant
  target_before : (t : Option VirtReg) (o : Option HeldGroup) (i : ℕ) (m : Option VirtRegGroup) (sets : List ValueSet) → GroupRight st σ u t o → group_fits o i m sets ≡ true → (t ≡ none) ⊎ (t ≡ place_of st m i)
  target_before t none i m sets r f = inl r
  target_before t (some hg) i m sets r f = let p = fits_parts hg i m sets f in go hg.mapped m refl p.1 r.0 p.0
    where
      go : (a b : Option VirtRegGroup) → hg.mapped ≡ a → mapping_fits a b ≡ true → t ≡ place_of st a hg.index → hg.index ≡ i → (t ≡ none) ⊎ (t ≡ place_of st b i)
      go none b e d q x = inl q
      go (some g) none e d q x = let z : ◌≡◌ {A = ℕ} 0 1 = cc in absurd (omega arith)
      go (some g) (some f') e d q x =
          let y : g ≡ f' = same_group g f' d in
          inr (q ∙ ap (λ (j : ℕ). get_or (members_at st g) j none) x ∙ ap (λ (j : VirtRegGroup). get_or (members_at st j) i none) y)

  either_none : (t : Option VirtReg) → (t ≡ none) ⊎ (t ≡ none) → t ≡ none
  either_none t (inl e) = e
  either_none t (inr e) = e

  target_after : (h : Held) (k : RegClass) (i : ℕ) (m : Option VirtRegGroup) (sets : List ValueSet) (n : RegClass × Option VirtReg) → HeldRight h → group_fits h.group i m sets ≡ true → in_group job st h k i m ≡ some n
      → n.1 ≡ place_of st m i
  unfolding in_group at_place
  target_after h k i none sets n r f e =
      let q : h.target ≡ n.1 = ap (λ (x : RegClass × Option VirtReg). x.1) (some-injective _ _ e) in
      sym q ∙ either_none h.target (target_before h.target h.group i none sets r f)
  target_after h k i (some g) sets n r f e = go (get_or (members_at st g) i none) refl e
    where
      go : (o : Option VirtReg) → get_or (members_at st g) i none ≡ o → at_place job st h k (members_at st g) o ≡ some n → n.1 ≡ get_or (members_at st g) i none
      go none a d =
          let b = bind_some (narrowed job st (members_at st g) k) _ n d in
          let q : h.target ≡ n.1 = ap (λ (x : RegClass × Option VirtReg). x.1) (some-injective _ _ b.2) in
          pick (target_before h.target h.group i (some g) sets r f) q
        where
          pick : (h.target ≡ none) ⊎ (h.target ≡ get_or (members_at st g) i none) → h.target ≡ n.1 → n.1 ≡ get_or (members_at st g) i none
          pick (inl x) q = sym q ∙ x ∙ sym a
          pick (inr x) q = sym q ∙ x
      go (some v) a d =
          let b = bind_some (common_subclass job h.class (register_at st v).class) _ n d in
          let q : some v ≡ n.1 = ap (λ (x : RegClass × Option VirtReg). x.1) (some-injective _ _ b.2) in
          sym q ∙ sym a

  sets_before : (o : Option HeldGroup) (i : ℕ) (m : Option VirtRegGroup) (sets xs : List ValueSet) → group_fits o i m sets ≡ true → SetsIs o xs → sets ≡ xs
  sets_before none i m sets xs f e = absurd e
  sets_before (some hg) i m sets xs f e = sym (fits_parts hg i m sets f).2 ∙ e

  group_next : (h g : Held) (p : Inst) (s : ℕ) (c : RegClass) (i : ℕ) (k : UseKind) → slot_of k ≡ some s → HeldRight h → get_or (sets_at job p s) i (vset 0) ≡ u → admit_group job st h p s c i ≡ some g → Next h g p k
  unfolding admit_group
  group_next h g p s c i k sl r us e =
      let m = mapped_at st.mapping p s in
      let sets = sets_at job p s in
      let a = bind_some (common_subclass job h.class c) _ g e in
      let t = bind_some (guard (group_fits h.group i m sets)) _ g a.2 in
      let n = bind_some (in_group job st h a.0 i m) _ g t.2 in
      let f : group_fits h.group i m sets ≡ true = guarded (group_fits h.group i m sets) t.0 t.1 in
      let now : Held = record { class = n.0.0; group = some (record { index = i; mapped = m; sets = sets }); target = n.0.1 } in
      let q : now ≡ g = some-injective _ _ n.2 in
      subst (λ (x : Held). Next h x p k) q (
        (target_after h a.0 i m sets n.0 r f n.1, λ x d. mapped_found (Meets job (length st.groups) σ) st.mapping p s x ok.maps d, us),
        λ xs d. sets_before h.group i m sets xs f d,
        λ s' d. ap (λ (y : ℕ). sets_at job p y) (some-injective s s' (sym sl ∙ d)),
      )

  plain_next : (h g : Held) (p : Inst) (k : UseKind) → slot_of k ≡ none → HeldRight h → some h ≡ some g → Next h g p k
  plain_next h g p k sl r e =
      subst (λ (x : Held). Next h x p k) (some-injective h g e) (r, λ xs d. d, λ s d. let z : ◌≡◌ {A = ℕ} 0 1 = cc in absurd (omega arith))

  class_next : (h g : Held) (p : Inst) (c : RegClass) (k : UseKind) → slot_of k ≡ none → HeldRight h → admit_class job h c ≡ some g → Next h g p k
  unfolding admit_class
  class_next h g p c k sl r e =
      let a = bind_some (common_subclass job h.class c) _ g e in
      let now : Held = record { class = a.0; group = h.group; target = h.target } in
      let q : now ≡ g = some-injective _ _ a.2 in
      subst (λ (x : Held). Next h x p k) q (r, λ xs d. d, λ s d. let z : ◌≡◌ {A = ℕ} 0 1 = cc in absurd (omega arith))

  kind_next : (h g : Held) (p : Inst) (k : UseKind) → HeldRight h → KindIn job u p k → admit_kind job st h p k ≡ some g → Next h g p k
  kind_next h g p k r i e =
      kind_cases job st h g p (IndexIn job u p) (Next h g p) (λ k n m f. plain_next h g p k m r f) (λ k c n m f. class_next h g p c k m r f)
      (λ k s c x n m a f. group_next h g p s c x k m r a f) k i e

  scan_next : (us : List Use) (h g : Held) → HeldRight h → All (UseIn job u) us → scan job st us h ≡ through g
      → HeldRight g × Persists h g × All (λ w. Agrees job g.group w.pos w.kind) us
  unfolding scan admit
  scan_next [] h g r i e = let q : h ≡ g = cc in subst (λ (x : Held). HeldRight x × Persists h x × Unit {0}) q (r, λ xs d. d, tt)
  scan_next (w ∷ us) h g r i e =
      let t = scan_step job st w us h g e in
      let n = kind_next h t.0 w.pos w.kind r i.0 t.1 in
      let m = scan_next us t.0 g n.0 i.1 t.2 in
      (m.0, λ xs d. m.1 xs (n.1 xs d), (λ s d. m.1 (sets_at job w.pos s) (n.2 s d), m.2))

-- ---- tables: registers with the same sets

module _ (job : Job) where
  update_all : (P : Register → Type 0) (f : Register → Register) (n : ℕ) (rs : List Register) → All P rs → P (f (nth rs (vreg n))) → All P (update f n rs)
  unfolding update
  update_all P f n [] h k = tt
  update_all P f zero (r ∷ rs) h k = (k, h.1)
  update_all P f (suc n) (r ∷ rs) h k = (h.0, update_all P f n rs h.1 k)

  update_set : (f : Register → Register) → ((r : Register) → (f r).set ≡ r.set) → (n v : ℕ) (rs : List Register) → (nth (update f n rs) (vreg v)).set ≡ (nth rs (vreg v)).set
  unfolding update
  update_set f k n v [] = refl
  update_set f k zero zero (r ∷ rs) = k r
  update_set f k zero (suc v) (r ∷ rs) = refl
  update_set f k (suc n) zero (r ∷ rs) = refl
  update_set f k (suc n) (suc v) (r ∷ rs) = update_set f k n v rs

  in_set_at : (rs : List Register) (n : VirtReg) → All (InSet job) rs → InSet job (nth rs n)
  in_set_at rs n h = all_get_d (InSet job) rs n.0 no_register h tt

  abbrev SameSets : List Register → List Register → Type 0
  SameSets rs ts = (length ts ≡ length rs) × ((v : VirtReg) → (nth ts v).set ≡ (nth rs v).set) × (All (InSet job) rs → All (InSet job) ts)

  spread_same : (c : RegClass) (w : Float) (ms : List (Option VirtReg)) (rs : List Register) → SameSets rs (spread c w ms rs)
  unfolding spread
  spread_same c w [] rs = (refl, λ v. refl, λ h. h)
  spread_same c w (none ∷ ms) rs = spread_same c w ms rs
  spread_same c w (some n ∷ ms) rs =
      let i = spread_same c w ms (update (with_weight c w) n.0 rs) in (
        i.0 ∙ update_length (with_weight c w) n.0 rs,
        λ v. i.1 v ∙ update_set (with_weight c w) (λ r. refl) n.0 v.0 rs,
        λ h. i.2 (update_all (InSet job) (with_weight c w) n.0 rs h (in_set_at rs n h)),
      )

  -- a register more
  Member : List Register → VirtReg → ValueSet → Type 0
  Member rs v x = (v.0 < length rs) × ((nth rs v).set ≡ x)

  member_old : (rs ts : List Register) (r : Register) (v : VirtReg) (x : ValueSet) → SameSets rs ts → Member rs v x → Member (ts ++ (r ∷ [])) v x
  unfolding Member
  member_old rs ts r v x s m =
      let l : v.0 < length ts = omega (arith, s.0, m.0) in
      (omega (arith, length-append ts (r ∷ [])), ap (λ (q : Register). q.set) (nth_left ts r v l) ∙ s.1 v ∙ m.1)

  member_new : (ts : List Register) (r : Register) (v : VirtReg) (x : ValueSet) → v.0 ≡ length ts → r.set ≡ x → Member (ts ++ (r ∷ [])) v x
  unfolding Member
  member_new ts r v x e f =
      let q : v.0 ≡ length ts + 0 = omega arith in
      (omega (arith, length-append ts (r ∷ [])), rw q (ap (λ (q : Register). q.set) (get_or-append-add ts (r ∷ []) 0 no_register) ∙ f))

  set_cases : (ms : List (Option VirtReg)) (i j : ℕ) (r v : VirtReg) → get_or (set ms i (some r)) j none ≡ some v → ((j ≡ i) × (v ≡ r)) ⊎ (get_or ms j none ≡ some v)
  set_cases [] i j r v e = let z : ◌≡◌ {A = ℕ} 0 1 = cc in absurd (omega arith)
  set_cases (m ∷ ms) zero zero r v e = inl (refl, sym (some-injective r v e))
  set_cases (m ∷ ms) zero (suc j) r v e = inr e
  set_cases (m ∷ ms) (suc i) zero r v e = inr e
  set_cases (m ∷ ms) (suc i) (suc j) r v e = go (set_cases ms i j r v e)
    where
      go : ((j ≡ i) × (v ≡ r)) ⊎ (get_or ms j none ≡ some v) → ((suc j ≡ suc i) × (v ≡ r)) ⊎ (get_or ms j none ≡ some v)
      go (inl q) = inl (ap suc q.0, q.1)
      go (inr q) = inr q

  none_there : (n j : ℕ) (v : VirtReg) → get_or {A = Option VirtReg} (replicate n none) j none ≡ some v → ⊥
  none_there zero j v e = let z : ◌≡◌ {A = ℕ} 0 1 = cc in omega arith
  none_there (suc n) zero v e = let z : ◌≡◌ {A = ℕ} 0 1 = cc in omega arith
  none_there (suc n) (suc j) v e = none_there n j v e

-- ---- placing

abbrev pub RightIn : Job → State → Type 0
RightIn job st = (σ : VirtRegGroup → List ValueSet) × Right job st σ

module _ (job : Job) (room : Room) (u : ValueSet) (h : Held) (new : List Piece) (st : State) (σ : VirtRegGroup → List ValueSet) (ok : Right job st σ)
    (of : All (λ p. set_of job p.seg.value ≡ u) new) where
  same_sets : SameSets job st.registers st.registers
  same_sets = (refl, λ v. refl, λ k. k)

  alone_right : RightIn job (alone_state job u h new st)
  unfolding alone_state members_at Member
  alone_right =
      let r = made u h (weight_of job h.class (segs_of new)) none 0 new in (
        σ,
        record {
          own_sets = all_append (InSet job) st.registers (r ∷ []) ok.own_sets (of, tt);
          members = λ g j v e. member_old job st.registers st.registers r v (get_or (σ g) j (vset 0)) same_sets (ok.members g j v e);
          maps = ok.maps;
        },
      )

  module _ (hg : HeldGroup) (at : get_or hg.sets hg.index (vset 0) ≡ u) where
    join_right : (g : VirtRegGroup) → g.0 < length st.groups → hg.sets ≡ σ g → RightIn job (join_state job u h hg g new st)
    unfolding join_state members_at Member
    join_right g l sg =
        let w = group_weight job h hg (members_at st g) new st in
        let old = spread h.class w (members_at st g) st.registers in
        let r = made u h w (some g) hg.index new in
        let ms = set (members_at st g) hg.index (some (vreg (length st.registers))) in
        let same = spread_same job h.class w (members_at st g) st.registers in
        let here : u ≡ get_or (σ g) hg.index (vset 0) = sym at ∙ ap (λ (x : List ValueSet). get_or x hg.index (vset 0)) sg in (
          σ,
          record {
            own_sets = all_append (InSet job) old (r ∷ []) (same.2 ok.own_sets) (of, tt);
            members = λ f j v e. go old r ms f j v same here (set_cases job (members_at st g) hg.index j (vreg (length st.registers)) v) (eqb f.0 g.0) refl e;
            maps = rw (length-set st.groups g.0 ms) ok.maps;
          },
        )
      where
        go : (old : List Register) (r : Register) (ms : List (Option VirtReg)) (f : VirtRegGroup) (j : ℕ) (v : VirtReg) → SameSets job st.registers old → r.set ≡ get_or (σ g) hg.index (vset 0)
            → (get_or ms j none ≡ some v → ((j ≡ hg.index) × (v ≡ vreg (length st.registers))) ⊎ (get_or (get_or st.groups g.0 []) j none ≡ some v))
            → (b : Bool) → eqb f.0 g.0 ≡ b → get_or (get_or (set st.groups g.0 ms) f.0 []) j none ≡ some v → Member job (old ++ (r ∷ [])) v (get_or (σ f) j (vset 0))
        go old r ms f j v same here cases true x e =
            let q : f ≡ g = same_group f g x in
            let d : get_or ms j none ≡ some v = subst (λ (y : List (Option VirtReg)). get_or y j none ≡ some v) (ap (λ (y : VirtRegGroup). get_or (set st.groups g.0 ms) y.0 []) q ∙ get_or-set_same st.groups g.0 ms [] l) e in
            pick (cases d)
          where
            pick : ((j ≡ hg.index) × (v ≡ vreg (length st.registers))) ⊎ (get_or (get_or st.groups g.0 []) j none ≡ some v) → Member job (old ++ (r ∷ [])) v (get_or (σ f) j (vset 0))
            pick (inl c) =
                let q : f ≡ g = same_group f g x in
                member_new job old r v (get_or (σ f) j (vset 0)) (ap (λ (y : VirtReg). y.0) c.1 ∙ sym same.0) (here ∙ ap (λ (y : ℕ). get_or (σ g) y (vset 0)) (sym c.0) ∙ ap (λ (y : VirtRegGroup). get_or (σ y) j (vset 0)) (sym q))
            pick (inr c) =
                let q : g ≡ f = sym (same_group f g x) in
                member_old job st.registers old r v (get_or (σ f) j (vset 0)) same (ok.members f j v (subst (λ (y : VirtRegGroup). get_or (get_or st.groups y.0 []) j none ≡ some v) q c))
        go old r ms f j v same here cases false x e =
            let d : get_or (get_or st.groups f.0 []) j none ≡ some v =
            subst (λ (y : List (Option VirtReg)). get_or y j none ≡ some v) (get_or-set_other st.groups g.0 f.0 ms [] (λ q. eqb-false _ _ x q)) e in
            member_old job st.registers old r v (get_or (σ f) j (vset 0)) same (ok.members f j v d)

    merge_right : (g : VirtRegGroup) (v : VirtReg) → hg.sets ≡ σ g → get_or (members_at st g) hg.index none ≡ some v → RightIn job (merge_state job h hg g v new st)
    unfolding merge_state members_at register_at
    merge_right g v sg pl =
        let rs = st.registers in
        let old = (nth rs v).pieces in
        let ps = inserted (first_from new) new old in
        let w = group_weight job h hg (members_at st g) ps st in
        let mem = ok.members g hg.index v pl in
        let its : u ≡ (nth rs v).set = sym at ∙ ap (λ (x : List ValueSet). get_or x hg.index (vset 0)) sg ∙ sym mem.1 in
        let all : InSet job (with_pieces ps (nth rs v)) =
        all_inserted (λ p. set_of job p.seg.value ≡ (nth rs v).set) (first_from new) new old (all_map _ (λ p. set_of job p.seg.value ≡ (nth rs v).set) (λ p e. e ∙ its) new of) (in_set_at job rs v ok.own_sets) in
        let ts = update (with_pieces ps) v.0 rs in
        let same = spread_same job h.class w (members_at st g) ts in (
          σ,
          record {
            own_sets = same.2 (update_all job (InSet job) (with_pieces ps) v.0 rs ok.own_sets all);
            members = λ f j x e. let m = ok.members f j x e in
                (omega (arith, m.0, same.0, update_length (with_pieces ps) v.0 rs), same.1 x ∙ update_set job (with_pieces ps) (λ r. refl) v.0 x.0 rs ∙ m.1);
            maps = ok.maps;
          },
        )

    abbrev over : VirtRegGroup → List ValueSet
    over x = cond (eqb x.0 (length st.groups)) hg.sets (σ x)

    over_same : over (vrgroup (length st.groups)) ≡ hg.sets
    over_same = rw (eq-eqb (length st.groups) (length st.groups) refl)

    over_other : (x : VirtRegGroup) → x.0 < length st.groups → over x ≡ σ x
    over_other x l = rw (ne_eqb x.0 (length st.groups) (λ e. omega arith))

    abbrev Entered : Inst → ℕ → VirtRegGroup → Type 0
    Entered = Meets job (suc (length st.groups)) over

    abbrev fresh' : List (Option VirtReg)
    fresh' = set (replicate (class_at job h.class).size none) hg.index (some (vreg (length st.registers)))

    lead_right : (ms : List Mapped) → AllMapped Entered ms → RightIn job (lead_state job u h hg new st ms)
    unfolding lead_state members_at Member
    lead_right ms am =
        let n = vrgroup (length st.groups) in
        let r = made u h (weight_of job h.class (segs_of new)) (some n) hg.index new in
        let g' = set (replicate (class_at job h.class).size none) hg.index (some (vreg (length st.registers))) in (
          over,
          record {
            own_sets = all_append (InSet job) st.registers (r ∷ []) ok.own_sets (of, tt);
            members = λ f j v e. go r f j v (sym at) e (ltb f.0 (length st.groups)) refl;
            maps = rw length-append (subst (λ (n : ℕ). AllMapped (Meets job n over) ms) (omega arith) am);
          },
        )
      where
        last : (r : Register) (f : VirtRegGroup) (j : ℕ) (v : VirtReg) (d : ℕ) → r.set ≡ get_or hg.sets hg.index (vset 0) → f.0 ≡ length st.groups + d → get_or (get_or {A = List (Option VirtReg)} (fresh' ∷ []) d []) j none ≡ some v
            → Member job (st.registers ++ (r ∷ [])) v (get_or (over f) j (vset 0))
        last r f j v zero here q e = pick (set_cases job (replicate (class_at job h.class).size none) hg.index j (vreg (length st.registers)) v e)
          where
            pick : ((j ≡ hg.index) × (v ≡ vreg (length st.registers))) ⊎ (get_or {A = Option VirtReg} (replicate (class_at job h.class).size none) j none ≡ some v)
                → Member job (st.registers ++ (r ∷ [])) v (get_or (over f) j (vset 0))
            pick (inl c) =
                let x : f.0 ≡ length st.groups = omega arith in
                let y : over f ≡ hg.sets = ap (λ (n : ℕ). over (vrgroup n)) x ∙ over_same in
                member_new job st.registers r v (get_or (over f) j (vset 0)) (ap (λ (k : VirtReg). k.0) c.1) (here ∙ ap (λ (k : ℕ). get_or hg.sets k (vset 0)) (sym c.0) ∙ ap (λ (l : List ValueSet). get_or l j (vset 0)) (sym y))
            pick (inr c) = absurd (none_there job (class_at job h.class).size j v c)
        last r f j v (suc d) here q e = let z : ◌≡◌ {A = ℕ} 0 1 = cc in absurd (omega arith)

        go : (r : Register) (f : VirtRegGroup) (j : ℕ) (v : VirtReg) → r.set ≡ get_or hg.sets hg.index (vset 0) → get_or (get_or (st.groups ++ (fresh' ∷ [])) f.0 []) j none ≡ some v
            → (b : Bool) → ltb f.0 (length st.groups) ≡ b → Member job (st.registers ++ (r ∷ [])) v (get_or (over f) j (vset 0))
        go r f j v here e true x =
            let l : f.0 < length st.groups = ltb-true _ _ x in
            let d : get_or (get_or st.groups f.0 []) j none ≡ some v = subst (λ (y : List (Option VirtReg)). get_or y j none ≡ some v) (get_or-append st.groups (fresh' ∷ []) [] f.0 l) e in
            member_old job st.registers st.registers r v (get_or (over f) j (vset 0)) same_sets
            (subst (λ (y : List ValueSet). Member job st.registers v (get_or y j (vset 0))) (sym (over_other f l)) (ok.members f j v d))
        go r f j v here e false x =
            let l : length st.groups ≤ f.0 = ltb-false _ _ x in
            let d = f.0 - length st.groups in
            let q : f.0 ≡ length st.groups + d = omega arith in
            last r f j v d here q (subst (λ (y : List (Option VirtReg)). get_or y j none ≡ some v)
            (ap (λ (y : ℕ). get_or (st.groups ++ (fresh' ∷ [])) y []) q ∙ get_or-append-add st.groups (fresh' ∷ []) d []) e)

    place_group_lem : (m : Option VirtRegGroup) (t : Option VirtReg) (st' : State) → hg.mapped ≡ m → t ≡ place_of st m hg.index → ((g : VirtRegGroup) → m ≡ some g → (g.0 < length st.groups) × (hg.sets ≡ σ g))
        → All (λ w. (s : ℕ) → slot_of w.kind ≡ some s → hg.sets ≡ sets_at job w.pos s) (uses_of (segs_of new)) → place_group job room u h new st hg m t ≡ done st' → RightIn job st'
    unfolding place_group lead join merge
    place_group_lem none t st' q pl sg ag e =
        let o = map_uses (vrgroup (length st.groups)) (uses_of (segs_of new)) st.mapping in
        let old : AllMapped Entered st.mapping = all_map _ (λ m. Entered m.inst m.slot m.group) (λ m a. (omega (arith, a.0), a.1 ∙ sym (over_other m.group a.0))) st.mapping ok.maps in
        let all = map_all Entered (vrgroup (length st.groups)) (uses_of (segs_of new)) st.mapping old
        (all_map _ (λ w. (s : ℕ) → slot_of w.kind ≡ some s → Entered w.pos s (vrgroup (length st.groups))) (λ w f s d. (omega arith, sym (f s d) ∙ sym over_same)) (uses_of (segs_of new)) ag) in
        subst (RightIn job) (gate_done (is_none o) (has_room room st 1 1 new) MappedTwice (lead_state job u h hg new st (or_else o [])) st' e) (lead_right (or_else o []) (or_empty Entered o all))
    place_group_lem (some g) none st' q pl sg ag e =
        let f = sg g refl in
        subst (RightIn job) (room_done (has_room room st 1 0 new) (join_state job u h hg g new st) st' e) (join_right g f.0 f.1)
    place_group_lem (some g) (some v) st' q pl sg ag e =
        subst (RightIn job) (gate_done (overlaps (first_from new) (last_to new) (register_at st v).pieces) (has_room room st 0 0 new) Overlap (merge_state job h hg g v new st) st' e)
        (merge_right g v (sg g refl).1 (sym pl))

  place_by_lem : (o : Option HeldGroup) (st' : State) → GroupRight st σ u h.target o → All (λ w. Agrees job o w.pos w.kind) (uses_of (segs_of new))
      → place_by job room u h new st o ≡ done st' → RightIn job st'
  unfolding place_by alone
  place_by_lem none st' r ag e = subst (RightIn job) (room_done (has_room room st 1 0 new) (alone_state job u h new st) st' e) alone_right
  place_by_lem (some hg) st' r ag e = place_group_lem hg r.2 hg.mapped h.target st' refl r.0 r.1 ag e

  place_right : (st' : State) → GroupRight st σ u h.target h.group → All (λ w. Agrees job h.group w.pos w.kind) (uses_of (segs_of new))
      → place job room u h new st ≡ done st' → RightIn job st'
  unfolding place
  place_right st' r ag e = place_by_lem h.group st' r ag e

-- ---- the run over all sets

abbrev pub RunIn : Job → List Segment → Type 0
RunIn job ss = RunOk (ValueIn job) (UseIn job) job ss

module _ (job : Job) (room : Room) where
  piece_values : (u : ValueSet) (ps : List Piece) → All (PieceOk (ValueIn job) (UseIn job) u) ps → All (λ p. set_of job p.seg.value ≡ u) ps
  piece_values u [] a = tt
  piece_values u (p ∷ ps) a = (a.0.0, piece_values u ps a.1)

  place_keeps : (u : ValueSet) (top : RegClass) (h : Held) (new : List Piece) (st st' : State) → RightIn job st → All (PieceOk (ValueIn job) (UseIn job) u) new
      → scan job st (uses_of (segs_of new)) (fresh top) ≡ through h → place job room u h new st ≡ done st' → RightIn job st'
  unfolding fresh
  place_keeps u top h new st st' i a e f =
      let n = scan_next job st i.0 i.1 u (uses_of (segs_of new)) (fresh top) h refl (piece_uses (ValueIn job) (UseIn job) u new a) e in
      place_right job room u h new st i.0 i.1 (piece_values u new a) st' n.0 n.2 f

  empty_right : RightIn job empty
  unfolding members_at mapped_at
  empty_right = (
    λ _. [],
    record {
      own_sets = tt;
      members = λ g j v e. let z : ◌≡◌ {A = ℕ} 0 1 = cc in absurd (omega arith);
      maps = tt;
    },
  )

  -- every piece of the result stands in a register of its value's set
  pub built_in_set : (res : Result) → All (RunIn job) (runs (same_set job) job.segments) → build job room ≡ done res → All (InSet job) res.registers
  unfolding build
  built_in_set res a e =
      let rs = runs (same_set job) job.segments in
      let b = bind_done (build_sets job room rs empty) _ res e in
      let k = sets_kept (ValueIn job) (UseIn job) (λ u i. tt) (λ u i q. tt) job room (RightIn job) place_keeps rs empty b.0 empty_right a b.1 in
      let q : b.0.registers ≡ res.registers = cc in
      subst (All (InSet job)) q k.1.own_sets

-- ---- what the entry rules give

get_or_padded : {A B : Type 0} (f : A → B) (a : A) (b : B) (xs : List A) (ys : List B) (i : ℕ) → i < length xs → get_or (map f xs ++ ys) i b ≡ f (get_or xs i a)
get_or_padded f a b [] ys i l = absurd (omega arith)
get_or_padded f a b (x ∷ xs) ys zero l = refl
get_or_padded f a b (x ∷ xs) ys (suc i) l = get_or_padded f a b xs ys i (omega arith)

module _ (job : Job) where
  module _ (fn : function_ok job ≡ true) where
    group_in : (v : Value) (p : Inst) (s : ℕ) (c : RegClass) (i : ℕ) → group_use_ok job v p s c i ≡ true → get_or (sets_at job p s) i (vset 0) ≡ set_of job v
    unfolding sets_at sets_of vgroup_values
    group_in v p s c i e =
        let t = (group_operand job fn v p s c i e).1 in
        let q : get_or job.vgroups (vgroup_at job.operands p s) [] ≡ vgroup_values job (operand_at job.operands p s).vgroup =
        ap (λ (n : ℕ). get_or job.vgroups n []) (vgroup_at_lem job.operands p s) in
        ap (λ (xs : List Value). get_or (sets_of job xs) i (vset 0)) q
        ∙ get_or_padded (λ x. set_of job x) (val 0) (vset 0) (vgroup_values job (operand_at job.operands p s).vgroup) _ i t.3 ∙ ap (λ (x : Value). set_of job x) t.4

    abbrev pub UsesIn : Segment → Type 0
    UsesIn s = All (UseIn job (set_of job s.value)) s.uses

    uses_in_lem : (s : Segment) → uses_ok job s ≡ true → UsesIn s
    uses_in_lem s e = uses_are job (IndexIn job (set_of job s.value)) s (group_in s.value) e

    one_run : (u : ValueSet) (ss : List Segment) → AllOf job u ss → All UsesIn ss → All (SegOk (ValueIn job) (UseIn job) u) ss
    one_run u [] a b = tt
    one_run u (s ∷ ss) a b = ((a.0, subst (λ (x : ValueSet). All (UseIn job x) s.uses) a.0 b.0), one_run u ss a.1 b.1)

    rise_in : (t : ℕ) (rs : List (List Segment)) → Rise job t rs → All (All UsesIn) rs → All (RunIn job) rs
    rise_in t [] r a = tt
    rise_in t ([] ∷ rs) r a = (tt, rise_in t rs r a.1)
    rise_in t ((c ∷ cs) ∷ rs) r a = (one_run (set_of job c.value) (c ∷ cs) (refl, r.1) a.0, rise_in (suc (set_of job c.value).0) rs r.3 a.1)

    pub runs_in : (t : ℕ) → Rise job t (runs (same_set job) job.segments) → every (uses_ok job) job.segments ≡ true → All (RunIn job) (runs (same_set job) job.segments)
    runs_in t r e =
        rise_in t (runs (same_set job) job.segments) r
        (runs_all UsesIn (same_set job) job.segments (all_map _ UsesIn uses_in_lem job.segments (every_all (uses_ok job) job.segments e)))
