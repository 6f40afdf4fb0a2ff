-- The tables that are built: registers by number, members of a group, the mapping, operands, pieces. Assumes nothing.
use mathlib.Core.Path.{◌≡◌, refl, ap, ◌∙◌, subst}
use mathlib.Core.Logic.{◌≢◌}
use Prim.Native.Nat.{ℕ, zero, suc, ◌<◌}
use native.Mathlib.Omega.{arith}
use mathlib.Core.Bool.{Bool, true, false, cond, ◌&&◌, ◌||◌}
use mathlib.Core.Option.{Option, none, some, some-injective}
use mathlib.Core.List.{List, [], ◌∷◌, ◌++◌}
use lib.ListN.{length, get_or, get_or-append}
use lib.Seq.{get_or-append-add}
use lib.Dec.{leb, eqb}
use lib.Ieee.{Float}
use borrow.Author.Tests.{eqb-true, eqb-false, eq-eqb}
use Rattle.definition.specs.Types.{Inst, Value, ValueSet, RegClass, VirtReg, VirtRegGroup, LiveRangePoint, UseKind, FixedDef, FixedUse, TiedUse, ConstraintConflict, ClassUse, ClassDef, GroupClassUse, GroupClassDef, BlockparamIn, BlockparamOut, Use, Operand, Segment, Job, HeldGroup, Held, Piece, Register, Mapped, State, inst, vset, cls, vreg, vrgroup}
use Rattle.definition.specs.Uses.{class_of, slot_of}
use Rattle.definition.specs.Admit.{admit_class, admit_group, admit_kind, group_fits, guard, mapped_at, mapping_fits, no_register, same_sets, vgroup_at}
use Rattle.definition.specs.Place.{if_unmapped, inserted, map_one, map_uses, on_mapping, or_else, segs_of, spread, update, uses_of, with_weight}
use Rattle.definition.specs.Entry.{every, group_use_ok, kind_ok, use_ok, use_tests, uses_ok}
use Rattle.definition.proofs.Places.{All, all_map, all_split, all_append, update_length}
use Rattle.definition.proofs.Entries.{and_both, conj_all, every_all}
use Rattle.definition.proofs.Runs.{PieceOk}

-- ---- registers by number

abbrev pub nth : List Register → VirtReg → Register
nth rs v = get_or rs v.0 no_register

pub update_same : (f : Register → Register) (v : ℕ) (rs : List Register) → v < length rs → nth (update f v rs) (vreg v) ≡ f (nth rs (vreg v))
unfolding update
update_same f v [] h = absurd (omega arith)
update_same f zero (r ∷ rs) h = refl
update_same f (suc v) (r ∷ rs) h = update_same f v rs (omega arith)

pub update_other : (f : Register → Register) (u v : ℕ) (rs : List Register) → u ≢ v → nth (update f u rs) (vreg v) ≡ nth rs (vreg v)
unfolding update
update_other f u v [] h = refl
update_other f zero zero (r ∷ rs) h = absurd (omega arith)
update_other f zero (suc v) (r ∷ rs) h = refl
update_other f (suc u) zero (r ∷ rs) h = refl
update_other f (suc u) (suc v) (r ∷ rs) h = update_other f u v rs (omega arith)

pub same_vreg : (u v : VirtReg) → eqb u.0 v.0 ≡ true → u ≡ v
same_vreg u v e = ap vreg (eqb-true _ _ e)

pub same_group : (g f : VirtRegGroup) → eqb g.0 f.0 ≡ true → g ≡ f
same_group g f e = ap vrgroup (eqb-true _ _ e)

-- v is a member
abbrev pub memb : List (Option VirtReg) → VirtReg → Bool
memb [] v = false
memb (none ∷ ms) v = memb ms v
memb (some u ∷ ms) v = eqb u.0 v.0 || memb ms v

module _ (c : RegClass) (w : Float) where
  -- what an update of a weight leaves
  weight_at : (u v : VirtReg) (rs : List Register) → u.0 < length rs → ((nth (update (with_weight c w) u.0 rs) v).pieces ≡ (nth rs v).pieces) × ((nth (update (with_weight c w) u.0 rs) v).group ≡ (nth rs v).group)
  weight_at u v rs h = go (eqb u.0 v.0) refl
    where
      go : (b : Bool) → eqb u.0 v.0 ≡ b → ((nth (update (with_weight c w) u.0 rs) v).pieces ≡ (nth rs v).pieces) × ((nth (update (with_weight c w) u.0 rs) v).group ≡ (nth rs v).group)
      go true e =
          let q : u ≡ v = same_vreg u v e in
          let s : nth (update (with_weight c w) v.0 rs) v ≡ with_weight c w (nth rs v) = update_same (with_weight c w) v.0 rs (omega (arith, eqb-true u.0 v.0 e)) in
          rw q (ap (λ (r : Register). r.pieces) s, ap (λ (r : Register). r.group) s)
      go false e =
          let s = update_other (with_weight c w) u.0 v.0 rs (eqb-false _ _ e) in
          (ap (λ (r : Register). r.pieces) s, ap (λ (r : Register). r.group) s)

  abbrev pub Inside : ℕ → List (Option VirtReg) → Type 0
  Inside n ms = All (λ o. (u : VirtReg) → o ≡ some u → u.0 < n) ms

  inside_update : (u : VirtReg) (rs : List Register) (ms : List (Option VirtReg)) → Inside (length rs) ms → Inside (length (update (with_weight c w) u.0 rs)) ms
  inside_update u rs ms h = rw (update_length (with_weight c w) u.0 rs) h

  pub spread_at : (ms : List (Option VirtReg)) (rs : List Register) (v : VirtReg) → Inside (length rs) ms
      → ((nth (spread c w ms rs) v).pieces ≡ (nth rs v).pieces) × ((nth (spread c w ms rs) v).group ≡ (nth rs v).group)
  unfolding spread
  spread_at [] rs v h = (refl, refl)
  spread_at (none ∷ ms) rs v h = spread_at ms rs v h.1
  spread_at (some u ∷ ms) rs v h =
      let i = spread_at ms (update (with_weight c w) u.0 rs) v (inside_update u rs ms h.1) in
      let a = weight_at u v rs (h.0 u refl) in
      (i.0 ∙ a.0, i.1 ∙ a.1)

  -- a register that has the class keeps it
  spread_keeps : (ms : List (Option VirtReg)) (rs : List Register) (v : VirtReg) → Inside (length rs) ms → (nth rs v).class ≡ c → (nth (spread c w ms rs) v).class ≡ c
  unfolding spread
  spread_keeps [] rs v h e = e
  spread_keeps (none ∷ ms) rs v h e = spread_keeps ms rs v h.1 e
  spread_keeps (some u ∷ ms) rs v h e = spread_keeps ms (update (with_weight c w) u.0 rs) v (inside_update u rs ms h.1) (go (eqb u.0 v.0) refl)
    where
      go : (b : Bool) → eqb u.0 v.0 ≡ b → (nth (update (with_weight c w) u.0 rs) v).class ≡ c
      go true f = let q : u ≡ v = same_vreg u v f in rw (← q) (ap (λ (r : Register). r.class) (update_same (with_weight c w) u.0 rs (h.0 u refl)))
      go false f = ap (λ (r : Register). r.class) (update_other (with_weight c w) u.0 v.0 rs (eqb-false _ _ f)) ∙ e

  pub spread_in : (ms : List (Option VirtReg)) (rs : List Register) (v : VirtReg) → Inside (length rs) ms → memb ms v ≡ true → (nth (spread c w ms rs) v).class ≡ c
  unfolding spread
  spread_in [] rs v h e = let z : ◌≡◌ {A = ℕ} 0 1 = cc in absurd (omega arith)
  spread_in (none ∷ ms) rs v h e = spread_in ms rs v h.1 e
  spread_in (some u ∷ ms) rs v h e = go (eqb u.0 v.0) refl e (λ k. spread_in ms (update (with_weight c w) u.0 rs) v (inside_update u rs ms h.1) k)
    where
      go : (b : Bool) → eqb u.0 v.0 ≡ b → (b || memb ms v) ≡ true → (memb ms v ≡ true → (nth (spread c w ms (update (with_weight c w) u.0 rs)) v).class ≡ c) → (nth (spread c w ms (update (with_weight c w) u.0 rs)) v).class ≡ c
      go true f g ih =
          let q : u ≡ v = same_vreg u v f in
          spread_keeps ms (update (with_weight c w) u.0 rs) v (inside_update u rs ms h.1) (rw (← q) (ap (λ (r : Register). r.class) (update_same (with_weight c w) u.0 rs (h.0 u refl))))
      go false f g ih = ih g

  pub spread_out : (ms : List (Option VirtReg)) (rs : List Register) (v : VirtReg) → memb ms v ≡ false → nth (spread c w ms rs) v ≡ nth rs v
  unfolding spread
  spread_out [] rs v e = refl
  spread_out (none ∷ ms) rs v e = spread_out ms rs v e
  spread_out (some u ∷ ms) rs v e = go (eqb u.0 v.0) refl e (λ k. spread_out ms (update (with_weight c w) u.0 rs) v k)
    where
      go : (b : Bool) → eqb u.0 v.0 ≡ b → (b || memb ms v) ≡ false → (memb ms v ≡ false → nth (spread c w ms (update (with_weight c w) u.0 rs)) v ≡ nth (update (with_weight c w) u.0 rs) v)
          → nth (spread c w ms (update (with_weight c w) u.0 rs)) v ≡ nth rs v
      go true f g ih = let z : ◌≡◌ {A = ℕ} 0 1 = cc in absurd (omega arith)
      go false f g ih = ih g ∙ update_other (with_weight c w) u.0 v.0 rs (eqb-false _ _ f)

pub get_or_memb : (ms : List (Option VirtReg)) (i : ℕ) (v : VirtReg) → get_or ms i none ≡ some v → memb ms v ≡ true
get_or_memb [] i v e = let z : ◌≡◌ {A = ℕ} 0 1 = cc in absurd (omega arith)
get_or_memb (none ∷ ms) zero v e = let z : ◌≡◌ {A = ℕ} 0 1 = cc in absurd (omega arith)
get_or_memb (none ∷ ms) (suc i) v e = get_or_memb ms i v e
get_or_memb (some u ∷ ms) zero v e = rw (eq-eqb u.0 v.0 (ap (λ (x : VirtReg). x.0) (some-injective u v e)))
get_or_memb (some u ∷ ms) (suc i) v e = go (eqb u.0 v.0) (get_or_memb ms i v e)
  where
    go : (b : Bool) → memb ms v ≡ true → (b || memb ms v) ≡ true
    go true f = refl
    go false f = f

-- of a list and of each of its members
pub memb_all : (P : Option VirtReg → Type 0) (ms : List (Option VirtReg)) (v : VirtReg) → All P ms → memb ms v ≡ true → P (some v)
memb_all P [] v h e = let z : ◌≡◌ {A = ℕ} 0 1 = cc in absurd (omega arith)
memb_all P (none ∷ ms) v h e = memb_all P ms v h.1 e
memb_all P (some u ∷ ms) v h e = go (eqb u.0 v.0) refl e (λ k. memb_all P ms v h.1 k)
  where
    go : (b : Bool) → eqb u.0 v.0 ≡ b → (b || memb ms v) ≡ true → (memb ms v ≡ true → P (some v)) → P (some v)
    go true f g ih = let q : u ≡ v = same_vreg u v f in subst (λ (x : VirtReg). P (some x)) q h.0
    go false f g ih = ih g

pub all_memb : (P : Option VirtReg → Type 0) (ms : List (Option VirtReg)) → P none → ((v : VirtReg) → memb ms v ≡ true → P (some v)) → All P ms
all_memb P [] n f = tt
all_memb P (none ∷ ms) n f = (n, all_memb P ms n f)
all_memb P (some u ∷ ms) n f = (f u (here u), all_memb P ms n (λ v e. f v (there v e)))
  where
    here : (v : VirtReg) → (eqb v.0 v.0 || memb ms v) ≡ true
    here v = rw (eq-eqb v.0 v.0 refl)

    there : (v : VirtReg) → memb ms v ≡ true → (eqb u.0 v.0 || memb ms v) ≡ true
    there v e = go (eqb u.0 v.0)
      where
        go : (b : Bool) → (b || memb ms v) ≡ true
        go true = refl
        go false = e

pub spread_len : (c : RegClass) (w : Float) (ms : List (Option VirtReg)) (rs : List Register) → length (spread c w ms rs) ≡ length rs
unfolding spread
spread_len c w [] rs = refl
spread_len c w (none ∷ ms) rs = spread_len c w ms rs
spread_len c w (some n ∷ ms) rs = spread_len c w ms (update (with_weight c w) n.0 rs) ∙ update_length (with_weight c w) n.0 rs

pub nth_left : (rs : List Register) (r : Register) (v : VirtReg) → v.0 < length rs → nth (rs ++ (r ∷ [])) v ≡ nth rs v
nth_left rs r v h = get_or-append rs (r ∷ []) no_register v.0 h

pub nth_last : (rs : List Register) (r : Register) → nth (rs ++ (r ∷ [])) (vreg (length rs)) ≡ r
nth_last rs r = ap (λ (i : ℕ). nth (rs ++ (r ∷ [])) (vreg i)) (omega arith) ∙ get_or-append-add rs (r ∷ []) 0 no_register

-- ---- the mapping: what holds of each entry holds of what is found in it

module _ (M : Inst → ℕ → VirtRegGroup → Type 0) where
  abbrev pub AllMapped : List Mapped → Type 0
  AllMapped ms = All (λ m. M m.inst m.slot m.group) ms

  pub mapped_found : (ms : List Mapped) (i : Inst) (s : ℕ) (g : VirtRegGroup) → AllMapped ms → mapped_at ms i s ≡ some g → M i s g
  unfolding mapped_at
  mapped_found [] i s g a e = let z : ◌≡◌ {A = ℕ} 0 1 = cc in absurd (omega arith)
  mapped_found (m ∷ ms) i s g a e = go (eqb m.inst.0 i.0) (eqb m.slot s) refl refl e (λ k. mapped_found ms i s g a.1 k)
    where
      go : (x y : Bool) → eqb m.inst.0 i.0 ≡ x → eqb m.slot s ≡ y → cond (x && y) (some m.group) (mapped_at ms i s) ≡ some g
          → (mapped_at ms i s ≡ some g → M i s g) → M i s g
      go true true p q k ih =
          let l : m.inst ≡ i = ap inst (eqb-true _ _ p) in
          let n : m.slot ≡ s = eqb-true _ _ q in
          let o : m.group ≡ g = some-injective _ _ k in
          rw (← l, ← n, ← o) a.0
      go true false p q k ih = ih k
      go false y p q k ih = ih k

  abbrev pub OnMapped : Option (List Mapped) → Type 0
  OnMapped none = Unit {0}
  OnMapped (some ms) = AllMapped ms

  if_unmapped_lem : (o : Option VirtRegGroup) (ms : List Mapped) → AllMapped ms → OnMapped (if_unmapped o ms)
  if_unmapped_lem none ms a = a
  if_unmapped_lem (some x) ms a = tt

  map_one_lem : (g : VirtRegGroup) (p : Inst) (o : Option ℕ) (ms : List Mapped) → ((s : ℕ) → o ≡ some s → M p s g) → AllMapped ms → OnMapped (map_one p o g ms)
  map_one_lem g p none ms f a = a
  map_one_lem g p (some s) ms f a =
      if_unmapped_lem (mapped_at ms p s) (ms ++ (record { inst = p; slot = s; group = g } ∷ []))
      (all_append (λ m. M m.inst m.slot m.group) ms (record { inst = p; slot = s; group = g } ∷ []) a (f s refl, tt))

  pub map_all : (g : VirtRegGroup) (us : List Use) (ms : List Mapped) → AllMapped ms → All (λ w. (s : ℕ) → slot_of w.kind ≡ some s → M w.pos s g) us → OnMapped (map_uses g us ms)
  unfolding map_uses
  map_all g [] ms a b = a
  map_all g (w ∷ us) ms a b =
      go (map_one w.pos (slot_of w.kind) g ms) (map_one_lem g w.pos (slot_of w.kind) ms b.0 a) (λ ns c. map_all g us ns c b.1)
    where
      go : (o : Option (List Mapped)) → OnMapped o → ((ns : List Mapped) → AllMapped ns → OnMapped (map_uses g us ns)) → OnMapped (on_mapping o (λ ns. map_uses g us ns))
      go none c ih = tt
      go (some ns) c ih = ih ns c

  pub or_empty : (o : Option (List Mapped)) → OnMapped o → AllMapped (or_else o [])
  or_empty none h = tt
  or_empty (some ms) h = h

-- ---- the operand at an instruction and slot

abbrev pub no_operand : Operand
no_operand = record { inst = inst 0; slot = 0; vgroup = record { 0 = 0 }; class = cls 0 }

abbrev pub operand_at : List Operand → Inst → ℕ → Operand
operand_at [] i s = no_operand
operand_at (o ∷ os) i s = cond (eqb o.inst.0 i.0 && eqb o.slot s) o (operand_at os i s)

pub vgroup_at_lem : (os : List Operand) (i : Inst) (s : ℕ) → vgroup_at os i s ≡ (operand_at os i s).vgroup.0
unfolding vgroup_at
vgroup_at_lem [] i s = refl
vgroup_at_lem (o ∷ os) i s = go (eqb o.inst.0 i.0 && eqb o.slot s) (vgroup_at_lem os i s)
  where
    go : (b : Bool) → vgroup_at os i s ≡ (operand_at os i s).vgroup.0 → cond b o.vgroup.0 (vgroup_at os i s) ≡ (cond b o (operand_at os i s)).vgroup.0
    go true ih = refl
    go false ih = ih

-- ---- pieces and their uses

pub all_inserted : (P : Piece → Type 0) (a : LiveRangePoint) (new old : List Piece) → All P new → All P old → All P (inserted a new old)
unfolding inserted
all_inserted P a new [] h k = h
all_inserted P a new (p ∷ ps) h k = go (leb p.seg.to.0 a.0) refl (all_inserted P a new ps h k.1)
  where
    go : (b : Bool) → leb p.seg.to.0 a.0 ≡ b → All P (inserted a new ps) → All P (inserted a new (p ∷ ps))
    go true e ih = rw (e, inserted) (k.0, ih)
    go false e ih = rw (e, inserted) (all_append P new (p ∷ ps) h k)

pub by_pieces : (P : Use → Type 0) (ps : List Piece) → All P (uses_of (segs_of ps)) → All (λ p. All P p.seg.uses) ps
unfolding uses_of
by_pieces P [] h = tt
by_pieces P (p ∷ ps) h = let r = all_split P p.seg.uses (uses_of (segs_of ps)) h in (r.0, by_pieces P ps r.1)

-- facts on the uses of pieces, as `Runs` has them
pub piece_uses : (OfValue : ValueSet → Value → Type 0) (OfUse : ValueSet → Use → Type 0) (u : ValueSet) (ps : List Piece) → All (PieceOk OfValue OfUse u) ps
    → All (OfUse u) (uses_of (segs_of ps))
unfolding uses_of
piece_uses OfValue OfUse u [] a = tt
piece_uses OfValue OfUse u (p ∷ ps) a = all_append (OfUse u) p.seg.uses (uses_of (segs_of ps)) a.0.1 (piece_uses OfValue OfUse u ps a.1)

-- a test that lets through holds
pub guarded : (b : Bool) (u : Unit {0}) → guard b ≡ some u → b ≡ true
unfolding guard
guarded true u e = refl
guarded false u e = let z : ◌≡◌ {A = ℕ} 0 1 = cc in absurd (omega arith)

-- what the group held and a group use have in common
sets_equal : (xs ys : List ValueSet) → same_sets xs ys ≡ true → xs ≡ ys
sets_equal [] [] e = refl
sets_equal [] (y ∷ ys) e = let z : ◌≡◌ {A = ℕ} 0 1 = cc in absurd (omega arith)
sets_equal (x ∷ xs) [] e = let z : ◌≡◌ {A = ℕ} 0 1 = cc in absurd (omega arith)
sets_equal (x ∷ xs) (y ∷ ys) e =
    let a = and_both (eqb x.0 y.0) (same_sets xs ys) e in
    ap (λ (n : ℕ). vset n ∷ xs) (eqb-true _ _ a.0) ∙ ap (λ (zs : List ValueSet). y ∷ zs) (sets_equal xs ys a.1)

pub fits_parts : (hg : HeldGroup) (i : ℕ) (m : Option VirtRegGroup) (sets : List ValueSet) → group_fits (some hg) i m sets ≡ true → (hg.index ≡ i) × (mapping_fits hg.mapped m ≡ true) × (hg.sets ≡ sets)
unfolding group_fits
fits_parts hg i m sets e =
    let a = and_both _ _ e in
    let b = and_both _ _ a.0 in
    (eqb-true _ _ b.0, b.1, sets_equal _ _ a.1)

-- ---- uses by their kinds

-- a fact on slot, class and index of a group use
abbrev pub KindIs : (ℕ → RegClass → ℕ → Type 0) → UseKind → Type 0
KindIs G (FixedDef r) = Unit {0}
KindIs G (FixedUse r) = Unit {0}
KindIs G (TiedUse u d c i) = Unit {0}
KindIs G ConstraintConflict = Unit {0}
KindIs G (ClassUse s c) = Unit {0}
KindIs G (ClassDef s c) = Unit {0}
KindIs G (GroupClassUse s c i) = G s c i
KindIs G (GroupClassDef s c i) = G s c i
KindIs G (BlockparamIn q) = Unit {0}
KindIs G BlockparamOut = Unit {0}

module _ (job : Job) where
  -- what the entry rules give of each group use
  kind_is : (v : Value) (p : Inst) (G : ℕ → RegClass → ℕ → Type 0) → ((s : ℕ) (c : RegClass) (i : ℕ) → group_use_ok job v p s c i ≡ true → G s c i)
      → (k : UseKind) → kind_ok job v p k ≡ true → KindIs G k
  unfolding kind_ok
  kind_is v p G f (FixedDef r) e = tt
  kind_is v p G f (FixedUse r) e = tt
  kind_is v p G f (TiedUse u d c i) e = tt
  kind_is v p G f ConstraintConflict e = tt
  kind_is v p G f (ClassUse s c) e = tt
  kind_is v p G f (ClassDef s c) e = tt
  kind_is v p G f (GroupClassUse s c i) e = f s c i e
  kind_is v p G f (GroupClassDef s c i) e = f s c i e
  kind_is v p G f (BlockparamIn q) e = tt
  kind_is v p G f BlockparamOut e = tt

  pub uses_are : (G : Inst → ℕ → RegClass → ℕ → Type 0) (t : Segment) → ((p : Inst) (s : ℕ) (c : RegClass) (i : ℕ) → group_use_ok job t.value p s c i ≡ true → G p s c i)
      → uses_ok job t ≡ true → All (λ u. KindIs (G u.pos) u.kind) t.uses
  unfolding uses_ok use_ok
  uses_are G t f e =
      all_map _ (λ u. KindIs (G u.pos) u.kind) (λ u d. kind_is t.value u.pos (G u.pos) (f u.pos) u.kind (conj_all (use_tests job t u) d).1.0) t.uses
      (every_all (use_ok job t) t.uses (and_both (every (use_ok job t) t.uses) _ e).0)

  -- an admitted use is of a kind that changes nothing held, a class use of no group, or a group use
  pub kind_cases : (st : State) (h g : Held) (p : Inst) (G : ℕ → RegClass → ℕ → Type 0) (Q : UseKind → Type 0)
      → ((k : UseKind) → class_of k ≡ none → slot_of k ≡ none → some h ≡ some g → Q k)
      → ((k : UseKind) (c : RegClass) → class_of k ≡ some c → slot_of k ≡ none → admit_class job h c ≡ some g → Q k)
      → ((k : UseKind) (s : ℕ) (c : RegClass) (i : ℕ) → class_of k ≡ some c → slot_of k ≡ some s → G s c i → admit_group job st h p s c i ≡ some g → Q k)
      → (k : UseKind) → KindIs G k → admit_kind job st h p k ≡ some g → Q k
  unfolding admit_kind
  kind_cases st h g p G Q plain class group (FixedDef r) a e = plain (FixedDef r) refl refl e
  kind_cases st h g p G Q plain class group (FixedUse r) a e = plain (FixedUse r) refl refl e
  kind_cases st h g p G Q plain class group (TiedUse u d c i) a e = plain (TiedUse u d c i) refl refl e
  kind_cases st h g p G Q plain class group ConstraintConflict a e = plain ConstraintConflict refl refl e
  kind_cases st h g p G Q plain class group (ClassUse s c) a e = class (ClassUse s c) c refl refl e
  kind_cases st h g p G Q plain class group (ClassDef s c) a e = class (ClassDef s c) c refl refl e
  kind_cases st h g p G Q plain class group (GroupClassUse s c i) a e = group (GroupClassUse s c i) s c i refl refl a e
  kind_cases st h g p G Q plain class group (GroupClassDef s c i) a e = group (GroupClassDef s c i) s c i refl refl a e
  kind_cases st h g p G Q plain class group (BlockparamIn q) a e = plain (BlockparamIn q) refl refl e
  kind_cases st h g p G Q plain class group BlockparamOut a e = plain BlockparamOut refl refl e
