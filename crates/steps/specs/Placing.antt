-- Placing keeps what a state is: groups have as many places as the classes of their members and of the operands mapped to them. Subclassing need not be transitive. Assumes nothing.
use Rattle.std.proofs.Math.Path.{◌≡◌, refl, subst}
use Rattle.std.proofs.Common.{ap, sym, ◌∙◌, inl, inr, arith, length-append, get_or-append-add, eqb-true}
use Rattle.std.specs.Prelude.{◌⊎◌, ℕ, zero, suc, ◌<◌, Bool, true, false, cond, ◌&&◌, replicate, eqb, Float}
use Rattle.std.proofs.Math.Option.{Option, none, some, some-injective}
use mathlib.Core.List.{List, [], ◌∷◌, ◌++◌}
use Rattle.std.proofs.Math.ListN.{length, get_or, set, length-set, length-replicate, get_or-append}
use Rattle.definition.specs.declared.Inst.{Inst}
use Rattle.definition.specs.declared.RegClass.{RegClass}
use Rattle.definition.specs.declared.Stop.TheVariants.{MappedTwice, Overlap}
use Rattle.definition.specs.declared.Use.{Use}
use Rattle.definition.specs.declared.ValueSet.{ValueSet}
use Rattle.definition.specs.declared.VirtReg.{VirtReg}
use Rattle.definition.specs.declared.VirtRegGroup.{VirtRegGroup}
use Rattle.definition.specs.Types.{Job, Room, State, Held, HeldGroup, Piece, Register, Mapped, Segment, done, inst, vreg, vrgroup}
use Rattle.definition.specs.Uses.{slot_of}
use Rattle.definition.specs.Weights.{weight_of}
use Rattle.definition.specs.Admit.{scan, through, fresh, members_at, mapped_at, register_at, no_register}
use Rattle.definition.specs.Place.{alone, alone_state, first_from, group_weight, has_room, if_unmapped, inserted, is_none, join, join_state, last_to, lead, lead_state, made, map_one, map_uses, merge, merge_state, on_mapping, or_else, overlaps, place, place_by, place_group, segs_of, spread, update, uses_of, with_pieces, empty}
use Rattle.definition.specs.Build.{as_own}
use Rattle.definition.proofs.Places.{All, Ok, Members, Groups, all_map, all_append, all_get_d, all_set, gate_done, room_done, placed, scan_target, update_length, own_uses_lem}
use Rattle.definition.proofs.Classes.{Masks}
use Rattle.definition.proofs.Tables.{nth, memb, memb_all, Inside, spread_in, spread_out, spread_len, nth_left, nth_last}
use Rattle.definition.proofs.Admission.{asked, size_of, UseFits, Sizes}
use Rattle.definition.proofs.Builder.{Placing}
use Rattle.virt_regs.specs.Each.{each_none}
use Rattle.placing.specs.EndEnds.{FairAt, Sane}
use Rattle.steps.specs.Fits.{GroupsFit, StateFits}
use Rattle.steps.specs.Held.{GroupFit, MapFit, OperandFit, scan_fit}

-- ---- lists

all_at : {A : Type 0} (P : A → Type 0) (d : A) (xs : List A) → ((i : ℕ) → i < length xs → P (get_or xs i d)) → All P xs
all_at P d [] f = tt
all_at P d (x ∷ xs) f = (f 0 (omega arith), all_at P d xs (λ i l. f (suc i) (omega arith)))

-- a list in place of another that is as long
set_lengths : {A : Type 0} (gs : List (List A)) (i k : ℕ) (X : List A) → length X ≡ length (get_or gs i []) → length (get_or (set gs i X) k []) ≡ length (get_or gs k [])
set_lengths [] i k X e = refl
set_lengths (m ∷ gs) zero zero X e = e
set_lengths (m ∷ gs) zero (suc k) X e = refl
set_lengths (m ∷ gs) (suc i) zero X e = refl
set_lengths (m ∷ gs) (suc i) (suc k) X e = set_lengths gs i k X e

-- pieces put into a register leave the classes
pieces_class : (ps : List Piece) (n k : ℕ) (rs : List Register) → (get_or (update (with_pieces ps) n rs) k no_register).class ≡ (get_or rs k no_register).class
unfolding update
pieces_class ps n k [] = refl
pieces_class ps zero zero (r ∷ rs) = refl
pieces_class ps zero (suc k) (r ∷ rs) = refl
pieces_class ps (suc n) zero (r ∷ rs) = refl
pieces_class ps (suc n) (suc k) (r ∷ rs) = pieces_class ps n k rs

-- what is found in a mapping
abbrev Found : (Inst → ℕ → VirtRegGroup → Type 0) → List Mapped → Type 0
Found M ms = (p : Inst) (s : ℕ) (g : VirtRegGroup) → mapped_at ms p s ≡ some g → M p s g

-- ---- members and the places of their group

module _ (J : Job) where
  -- a member of a group of n places: a register whose class has n places
  abbrev MemberFit : List Register → ℕ → Option VirtReg → Type 0
  MemberFit rs n none = Unit {0}
  MemberFit rs n (some v) = (v.0 < length rs) × (size_of J (nth rs v).class ≡ n)

  abbrev MembersFit : List Register → List (Option VirtReg) → Type 0
  MembersFit rs ms = All (MemberFit rs (length ms)) ms

  members_by : (rs ts : List Register) → ((n : ℕ) (o : Option VirtReg) → MemberFit rs n o → MemberFit ts n o) → (gs : List (List (Option VirtReg))) → All (MembersFit rs) gs → All (MembersFit ts) gs
  members_by rs ts f gs a = all_map (MembersFit rs) (MembersFit ts) (λ ms b. all_map (MemberFit rs (length ms)) (MemberFit ts (length ms)) (f (length ms)) ms b) gs a

  fit_snoc : (rs : List Register) (r : Register) (n : ℕ) (o : Option VirtReg) → MemberFit rs n o → MemberFit (rs ++ (r ∷ [])) n o
  fit_snoc rs r n none a = tt
  fit_snoc rs r n (some v) a = (omega (arith, length-append rs (r ∷ []), a.0), ap (λ (x : Register). size_of J x.class) (nth_left rs r v a.0) ∙ a.1)

  fit_last : (rs : List Register) (r : Register) (n : ℕ) → size_of J r.class ≡ n → MemberFit (rs ++ (r ∷ [])) n (some (vreg (length rs)))
  fit_last rs r n e = (omega (arith, length-append rs (r ∷ [])), ap (λ (x : Register). size_of J x.class) (nth_last rs r) ∙ e)

  -- a class spread over the members of a group that has as many places; rs is the registers, or those with pieces put into one
  spread_fit : (c : RegClass) (w : Float) (rs₀ rs : List Register) (ms : List (Option VirtReg)) → length rs ≡ length rs₀ → ((v : VirtReg) → (nth rs v).class ≡ (nth rs₀ v).class) → MembersFit rs₀ ms
      → length ms ≡ size_of J c → (n : ℕ) (o : Option VirtReg) → MemberFit rs₀ n o → MemberFit (spread c w ms rs) n o
  spread_fit c w rs₀ rs ms len same a e n none b = tt
  spread_fit c w rs₀ rs ms len same a e n (some v) b = (omega (arith, spread_len c w ms rs, len, b.0), go (memb ms v) refl)
    where
      bound : (o : Option VirtReg) → MemberFit rs₀ (length ms) o → (u : VirtReg) → o ≡ some u → u.0 < length rs
      bound none k u q = let z : ◌≡◌ {A = ℕ} 0 1 = cc in absurd (omega arith)
      bound (some x) k u q = omega (arith, len, k.0, ap (λ (y : VirtReg). y.0) (some-injective x u q))

      within : Inside c w (length rs) ms
      within = all_map (MemberFit rs₀ (length ms)) (λ o. (u : VirtReg) → o ≡ some u → u.0 < length rs) bound ms a

      go : (m : Bool) → memb ms v ≡ m → size_of J (nth (spread c w ms rs) v).class ≡ n
      go true q =
          let m = memb_all (MemberFit rs₀ (length ms)) ms v a q in
          ap (λ (x : RegClass). size_of J x) (spread_in c w ms rs v within q) ∙ sym e ∙ sym m.1 ∙ b.1
      go false q = ap (λ (x : Register). size_of J x.class) (spread_out c w ms rs v q) ∙ ap (λ (x : RegClass). size_of J x) (same v) ∙ b.1

  -- ---- of a state and of its lists

  members_all : (st : State) → GroupsFit J st → Groups st → All (MembersFit st.registers) st.groups
  unfolding members_at register_at
  members_all st ok gs = all_at (MembersFit st.registers) [] st.groups here
    where
      at : (i k : ℕ) → i < length st.groups → (o : Option VirtReg) → get_or (get_or st.groups i []) k none ≡ o → Ok (length st.registers) o → MemberFit st.registers (length (get_or st.groups i [])) o
      at i k l none e b = tt
      at i k l (some v) e b = (b, ok.members (vrgroup i) k v l e)

      here : (i : ℕ) → i < length st.groups → MembersFit st.registers (get_or st.groups i [])
      here i l =
          all_at (MemberFit st.registers (length (get_or st.groups i []))) none (get_or st.groups i [])
          (λ k m. at i k l (get_or (get_or st.groups i []) k none) refl
          (all_get_d (Ok (length st.registers)) (get_or st.groups i []) k none (all_get_d (Members (length st.registers)) st.groups i [] gs tt) tt))

  members_of : (st : State) (g : VirtRegGroup) → All (MembersFit st.registers) st.groups → MembersFit st.registers (members_at st g)
  unfolding members_at
  members_of st g a = all_get_d (MembersFit st.registers) st.groups g.0 [] a tt

  -- group g is one of gs, and has as many places as the operand at p and s asks for
  abbrev PlacesFit : List (List (Option VirtReg)) → Inst → ℕ → VirtRegGroup → Type 0
  PlacesFit gs p s g = (g.0 < length gs) × (length (get_or gs g.0 []) ≡ size_of J (asked J p s))

  found_places : (st : State) → GroupsFit J st → Found (PlacesFit st.groups) st.mapping
  unfolding members_at
  found_places st ok = ok.mapped

  make : (st : State) → All (MembersFit st.registers) st.groups → Found (PlacesFit st.groups) st.mapping → GroupsFit J st
  unfolding members_at register_at
  make st a f = record {
    mapped = f;
    members = λ g i v l e.
        (subst (MemberFit st.registers (length (get_or st.groups g.0 []))) e
        (all_get_d (MemberFit st.registers (length (get_or st.groups g.0 []))) (get_or st.groups g.0 []) i none (all_get_d (MembersFit st.registers) st.groups g.0 [] a tt) tt)).1;
  }

  -- ---- one group more

  old_places : (st : State) (X : List (Option VirtReg)) → GroupsFit J st → Found (PlacesFit (st.groups ++ (X ∷ []))) st.mapping
  old_places st X ok p s g q =
      let a = found_places st ok p s g q in
      (omega (arith, length-append st.groups (X ∷ []), a.0), ap (λ (m : List (Option VirtReg)). length m) (get_or-append st.groups (X ∷ []) [] g.0 a.0) ∙ a.1)

  new_places : (gs : List (List (Option VirtReg))) (X : List (Option VirtReg)) (c : RegClass) → length X ≡ size_of J c → (us : List Use) → All (λ u. OperandFit J c u.pos u.kind) us
      → All (λ u. (s : ℕ) → slot_of u.kind ≡ some s → PlacesFit (gs ++ (X ∷ [])) u.pos s (vrgroup (length gs))) us
  new_places gs X c e us a =
      all_map (λ u. OperandFit J c u.pos u.kind) (λ u. (s : ℕ) → slot_of u.kind ≡ some s → PlacesFit (gs ++ (X ∷ [])) u.pos s (vrgroup (length gs)))
      (λ u f s q. (omega (arith, length-append gs (X ∷ [])), ap (λ (m : List (Option VirtReg)). length m) last ∙ e ∙ sym (f s q).1)) us a
    where
      last : get_or (gs ++ (X ∷ [])) (length gs) [] ≡ X
      last = ap (λ (i : ℕ). get_or (gs ++ (X ∷ [])) i []) (omega arith) ∙ get_or-append-add gs (X ∷ []) 0 []

-- ---- the mapping with more operands

mapped_snoc : (m : Mapped) (ms : List Mapped) (p : Inst) (s : ℕ) (g : VirtRegGroup) → mapped_at (ms ++ (m ∷ [])) p s ≡ some g → (mapped_at ms p s ≡ some g) ⊎ ((m.inst ≡ p) × (m.slot ≡ s) × (m.group ≡ g))
unfolding mapped_at
mapped_snoc m [] p s g e = go (eqb m.inst.0 p.0) (eqb m.slot s) refl refl e
  where
    go : (x y : Bool) → eqb m.inst.0 p.0 ≡ x → eqb m.slot s ≡ y → cond (x && y) (some m.group) none ≡ some g → (none ≡ some g) ⊎ ((m.inst ≡ p) × (m.slot ≡ s) × (m.group ≡ g))
    go true true q r f = inr (ap inst (eqb-true _ _ q), eqb-true _ _ r, some-injective _ _ f)
    go true false q r f = inl f
    go false y q r f = inl f
mapped_snoc m (n ∷ ms) p s g e = go (eqb n.inst.0 p.0 && eqb n.slot s) e (mapped_snoc m ms p s g)
  where
    go : (b : Bool) → cond b (some n.group) (mapped_at (ms ++ (m ∷ [])) p s) ≡ some g → (mapped_at (ms ++ (m ∷ [])) p s ≡ some g → (mapped_at ms p s ≡ some g) ⊎ ((m.inst ≡ p) × (m.slot ≡ s) × (m.group ≡ g)))
        → (cond b (some n.group) (mapped_at ms p s) ≡ some g) ⊎ ((m.inst ≡ p) × (m.slot ≡ s) × (m.group ≡ g))
    go true f ih = inl f
    go false f ih = ih f

module _ (M : Inst → ℕ → VirtRegGroup → Type 0) where
  abbrev OnFound : Option (List Mapped) → Type 0
  OnFound none = Unit {0}
  OnFound (some ms) = Found M ms

  if_unmapped_lem : (o : Option VirtRegGroup) (ms : List Mapped) → Found M ms → OnFound (if_unmapped o ms)
  if_unmapped_lem none ms a = a
  if_unmapped_lem (some x) ms a = tt

  found_one : (g : VirtRegGroup) (p : Inst) (o : Option ℕ) (ms : List Mapped) → ((s : ℕ) → o ≡ some s → M p s g) → Found M ms → OnFound (map_one p o g ms)
  found_one g p none ms f a = a
  found_one g p (some s) ms f a =
      if_unmapped_lem (mapped_at ms p s) (ms ++ (record { inst = p; slot = s; group = g } ∷ [])) λ q t x r. go q t x (mapped_snoc (record { inst = p; slot = s; group = g }) ms q t x r)
    where
      go : (q : Inst) (t : ℕ) (x : VirtRegGroup) → (mapped_at ms q t ≡ some x) ⊎ ((p ≡ q) × (s ≡ t) × (g ≡ x)) → M q t x
      go q t x (inl r) = a q t x r
      go q t x (inr r) = let a₀ : p ≡ q = r.0 in let a₁ : s ≡ t = r.1 in let a₂ : g ≡ x = r.2 in rw (← a₀, ← a₁, ← a₂) (f s refl)

  found_all : (g : VirtRegGroup) (us : List Use) (ms : List Mapped) → Found M ms → All (λ w. (s : ℕ) → slot_of w.kind ≡ some s → M w.pos s g) us → OnFound (map_uses g us ms)
  unfolding map_uses
  found_all g [] ms a b = a
  found_all g (w ∷ us) ms a b =
      go (map_one w.pos (slot_of w.kind) g ms) (found_one g w.pos (slot_of w.kind) ms b.0 a) (λ ns c. found_all g us ns c b.1)
    where
      go : (o : Option (List Mapped)) → OnFound o → ((ns : List Mapped) → Found M ns → OnFound (map_uses g us ns)) → OnFound (on_mapping o (λ ns. map_uses g us ns))
      go none c ih = tt
      go (some ns) c ih = ih ns c

  found_empty : Found M []
  unfolding mapped_at
  found_empty p s g e = let z : ◌≡◌ {A = ℕ} 0 1 = cc in absurd (omega arith)

  found_or : (o : Option (List Mapped)) → OnFound o → Found M (or_else o [])
  found_or none a = found_empty
  found_or (some ms) a = a

-- ---- the four ways

module _ (J : Job) (st : State) (ok : GroupsFit J st) (gs : Groups st) (vs : ValueSet) (h : Held) (new : List Piece) where
  abbrev rs₀ : List Register
  rs₀ = st.registers

  fit₀ : All (MembersFit J rs₀) st.groups
  fit₀ = members_all J st ok gs

  alone_fits : GroupsFit J (alone_state J vs h new st)
  unfolding alone_state
  alone_fits =
      let r = made vs h (weight_of J h.class (segs_of new)) none 0 new in
      make J (alone_state J vs h new st) (members_by J rs₀ (rs₀ ++ (r ∷ [])) (fit_snoc J rs₀ r) st.groups fit₀) (found_places J st ok)

  join_fits : (hg : HeldGroup) (g : VirtRegGroup) → length (members_at st g) ≡ size_of J h.class → GroupsFit J (join_state J vs h hg g new st)
  unfolding join_state members_at
  join_fits hg g e =
      let mem = members_at st g in
      let w = group_weight J h hg mem new st in
      let r = made vs h w (some g) hg.index new in
      let sp = spread h.class w mem rs₀ in
      let rs = sp ++ (r ∷ []) in
      let X = set mem hg.index (some (vreg (length rs₀))) in
      let l_x : length X ≡ length mem = length-set mem hg.index (some (vreg (length rs₀))) in
      let in₀ : MembersFit J rs₀ mem = members_of J st g fit₀ in
      let step : (n : ℕ) (o : Option VirtReg) → MemberFit J rs₀ n o → MemberFit J rs n o = λ n o a. fit_snoc J sp r n o (spread_fit J h.class w rs₀ rs₀ mem refl (λ v. refl) in₀ e n o a) in
      let last : MemberFit J rs (length mem) (some (vreg (length rs₀))) =
      subst (λ (k : ℕ). MemberFit J rs (length mem) (some (vreg k))) (spread_len h.class w mem rs₀) (fit_last J sp r (length mem) (sym e)) in
      let own : MembersFit J rs X =
      subst (λ (k : ℕ). All (MemberFit J rs k) X) (sym l_x)
      (all_set (MemberFit J rs (length mem)) mem hg.index (some (vreg (length rs₀))) (all_map (MemberFit J rs₀ (length mem)) (MemberFit J rs (length mem)) (step (length mem)) mem in₀) last) in
      make J (join_state J vs h hg g new st) (all_set (MembersFit J rs) st.groups g.0 X (members_by J rs₀ rs step st.groups fit₀) own)
      (λ p s f q.
      let a = found_places J st ok p s f q in
      (omega (arith, length-set st.groups g.0 X, a.0), set_lengths st.groups g.0 f.0 X l_x ∙ a.1))

  merge_fits : (hg : HeldGroup) (g : VirtRegGroup) (v : VirtReg) → length (members_at st g) ≡ size_of J h.class → GroupsFit J (merge_state J h hg g v new st)
  unfolding merge_state
  merge_fits hg g v e =
      let mem = members_at st g in
      let ps = inserted (first_from new) new (register_at st v).pieces in
      let w = group_weight J h hg mem ps st in
      let rs = update (with_pieces ps) v.0 rs₀ in
      let sp = spread h.class w mem rs in
      make J (merge_state J h hg g v new st)
      (members_by J rs₀ sp (spread_fit J h.class w rs₀ rs mem (update_length (with_pieces ps) v.0 rs₀) (λ u. pieces_class ps v.0 u.0 rs₀) (members_of J st g fit₀) e) st.groups fit₀)
      (found_places J st ok)

  replicate_fit : (rs : List Register) (m n : ℕ) → All (MemberFit J rs m) (replicate n none)
  replicate_fit rs m zero = tt
  replicate_fit rs m (suc n) = (tt, replicate_fit rs m n)

  lead_fits : (hg : HeldGroup) → All (λ u. OperandFit J h.class u.pos u.kind) (uses_of (segs_of new))
      → GroupsFit J (lead_state J vs h hg new st (or_else (map_uses (vrgroup (length st.groups)) (uses_of (segs_of new)) st.mapping) []))
  unfolding lead_state
  lead_fits hg us =
      let g = vrgroup (length st.groups) in
      let size = size_of J h.class in
      let r = made vs h (weight_of J h.class (segs_of new)) (some g) hg.index new in
      let rs = rs₀ ++ (r ∷ []) in
      let X = set (replicate size none) hg.index (some (vreg (length rs₀))) in
      let l_x : length X ≡ size = length-set (replicate size none) hg.index (some (vreg (length rs₀))) ∙ length-replicate size none in
      let more = st.groups ++ (X ∷ []) in
      let own : MembersFit J rs X =
      subst (λ (k : ℕ). All (MemberFit J rs k) X) (sym l_x) (all_set (MemberFit J rs size) (replicate size none) hg.index (some (vreg (length rs₀))) (replicate_fit rs size size) (fit_last J rs₀ r size refl)) in
      let ms = map_uses g (uses_of (segs_of new)) st.mapping in
      make J (lead_state J vs h hg new st (or_else ms [])) (all_append (MembersFit J rs) st.groups (X ∷ []) (members_by J rs₀ rs (fit_snoc J rs₀ r) st.groups fit₀) (own, tt))
      (found_or (PlacesFit J more) ms (found_all (PlacesFit J more) g (uses_of (segs_of new)) st.mapping (old_places J st X ok) (new_places J st.groups X h.class l_x (uses_of (segs_of new)) us)))

  place_fits : (room : Room) (st' : State) → GroupFit J st h.class h.group → All (λ u. OperandFit J h.class u.pos u.kind) (uses_of (segs_of new))
      → place J room vs h new st ≡ done st' → GroupsFit J st'
  unfolding place place_by place_group alone join lead merge
  place_fits room st' f us e = go h.group f e
    where
      grp : (hg : HeldGroup) (m : Option VirtRegGroup) (t : Option VirtReg) → MapFit J st h.class hg.index m → place_group J room vs h new st hg m t ≡ done st' → GroupsFit J st'
      grp hg none t a q =
          let o = map_uses (vrgroup (length st.groups)) (uses_of (segs_of new)) st.mapping in
          subst (GroupsFit J) (gate_done (is_none o) (has_room room st 1 1 new) MappedTwice (lead_state J vs h hg new st (or_else o [])) st' q) (lead_fits hg us)
      grp hg (some g) none a q = subst (GroupsFit J) (room_done (has_room room st 1 0 new) (join_state J vs h hg g new st) st' q) (join_fits hg g a.2)
      grp hg (some g) (some v) a q =
          subst (GroupsFit J) (gate_done (overlaps (first_from new) (last_to new) (register_at st v).pieces) (has_room room st 0 0 new) Overlap (merge_state J h hg g v new st) st' q) (merge_fits hg g v a.2)

      go : (gr : Option HeldGroup) → GroupFit J st h.class gr → place_by J room vs h new st gr ≡ done st' → GroupsFit J st'
      go none a q = subst (GroupsFit J) (room_done (has_room room st 1 0 new) (alone_state J vs h new st) st' q) alone_fits
      go (some hg) a q = grp hg hg.mapped h.target a.2 q

-- ---- placing what was scanned

pub placing_fits : (J : Job) → Masks J → Sizes J → (room : Room) (u : ValueSet) (new : List Piece) (st st' : State) → All (UseFits J) (uses_of (segs_of new)) → GroupsFit J st → Groups st
    → Placing J room u new st st' → GroupsFit J st' × Groups st'
unfolding fresh
placing_fits J ms sz room u new st st' kf ok gs p =
    let r = scan_fit J ms sz st ok (uses_of (segs_of new)) (fresh p.top) p.held tt kf p.admitted in
    let t = scan_target J st gs (uses_of (segs_of new)) (fresh p.top) p.held tt p.admitted in
    (place_fits J st ok gs u p.held new room st' r.0 r.2 p.put, (placed (λ _. 0) J room u p.held new st gs st' t p.put).1)

-- the same for all of a state, once the registers can be weighed
pub placing_state : (J : Job) → Masks J → Sizes J → (room : Room) (u : ValueSet) (new : List Piece) (st st' : State) → All (UseFits J) (uses_of (segs_of new)) → Placing J room u new st st' → StateFits J st → Sane J st'
    → StateFits J st'
placing_state J ms sz room u new st st' kf p f s =
    let r = placing_fits J ms sz room u new st st' kf f.fit f.groups p in
    record { sane = s; groups = r.1; fit = r.0 }

-- a part of a set is placed
pub part_fits : (J : Job) → Masks J → Sizes J → (room : Room) (u : ValueSet) (top : RegClass) (h : Held) (ss : List Segment) (st st' : State) → scan J st (uses_of ss) (fresh top) ≡ through h → All (UseFits J) (uses_of ss)
    → place J room u h (as_own ss) st ≡ done st' → StateFits J st → Sane J st' → StateFits J st'
part_fits J ms sz room u top h ss st st' e kf q f s =
    placing_state J ms sz room u (as_own ss) st st' (subst (All (UseFits J)) (sym (own_uses_lem ss)) kf) (record { top = top; held = h; admitted = rw (own_uses_lem ss) e; put = q }) f s

-- the state that a build starts from
pub empty_fits : (J : Job) → StateFits J empty
unfolding Sane
empty_fits J = record { sane = each_none (FairAt J); groups = tt; fit = make J empty tt (found_empty (PlacesFit J [])) }
