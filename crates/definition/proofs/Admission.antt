-- Class admission, whole: where subclassing is transitive, the class of each register of an accepted job's result is admitted by every class use in its pieces. Assumes nothing.
use mathlib.Core.Path.{◌≡◌, refl, ap, sym, ◌∙◌, subst}
use mathlib.Core.Logic.{inl, inr, ◌≢◌}
use Prim.Native.Nat.{ℕ, zero, suc, ◌≤◌, ◌<◌}
use native.Mathlib.Omega.{arith}
use mathlib.Core.Bool.{Bool, true, false, cond}
use mathlib.Core.Option.{Option, none, some, some-injective}
use mathlib.Core.List.{List, [], ◌∷◌, ◌++◌}
use lib.ListN.{length, get_or, set, replicate, length-append, get_or-append, length-set}
use lib.Seq.{get_or-append-add, get_or-set_same, get_or-set_other}
use lib.Dec.{ltb, eqb}
use lib.Ieee.{Float}
use borrow.Author.Tests.{ltb-true, ltb-false, eqb-false, eq-eqb, ne_eqb}
use Rattle.definition.specs.Types.{Inst, ValueSet, RegClass, VirtReg, VirtRegGroup, UseKind, FixedDef, FixedUse, TiedUse, ConstraintConflict, ClassUse, ClassDef, GroupClassUse, GroupClassDef, BlockparamIn, BlockparamOut, Use, Segment, Job, Room, HeldGroup, Held, Piece, Register, Mapped, State, MappedTwice, Overlap, done, cls, vreg, vrgroup}
use Rattle.definition.specs.RegInfo.{class_at, common_subclass, set_of}
use Rattle.definition.specs.Uses.{class_of, slot_of}
use Rattle.definition.specs.Weights.{weight_of}
use Rattle.definition.specs.Admit.{admit, admit_class, admit_group, admit_kind, at_place, fresh, group_fits, guard, in_group, mapped_at, mapping_fits, members_at, narrowed, register_at, scan, sets_at, through}
use Rattle.definition.specs.Place.{alone, alone_state, first_from, group_weight, has_room, inserted, is_none, join, join_state, last_to, lead, lead_state, made, map_uses, merge, merge_state, or_else, overlaps, place, place_by, place_group, segs_of, spread, update, uses_of, with_pieces, empty}
use Rattle.definition.specs.Build.{Result, build, build_sets, runs, same_set}
use Rattle.definition.specs.Promised.{In, Transitive}
use Rattle.definition.proofs.Places.{All, all_get_d, all_set, all_map, bind_some, bind_done, update_length, gate_done, room_done}
use Rattle.definition.proofs.Classes.{Masks, Serves, Below, common_in, below_in, below_trans, serves_below, same_step, class_step}
use Rattle.definition.proofs.Scans.{scan_step}
use Rattle.definition.proofs.Tables.{nth, update_same, update_other, same_vreg, same_group, memb, Inside, spread_at, spread_in, spread_out, get_or_memb, memb_all, all_memb, spread_len, nth_left, nth_last, AllMapped, OnMapped, mapped_found, map_all, or_empty, operand_at, all_inserted, by_pieces, piece_uses, guarded, fits_parts, KindIs, kind_cases}
use Rattle.definition.proofs.Runs.{SegOk, PieceOk, RunOk, runs_all, sets_kept}

-- ---- what holds of the tables

-- the class that an operand asks for
abbrev pub asked : Job → Inst → ℕ → RegClass
asked job i s = (operand_at job.operands i s).class

abbrev pub size_of : Job → RegClass → ℕ
size_of job c = (class_at job c).size

-- a member of group g: a register of that group, of class k
abbrev pub Is : State → VirtRegGroup → RegClass → Option VirtReg → Type 0
Is st g k none = Unit {0}
Is st g k (some v) = (v.0 < length st.registers) × ((register_at st v).group ≡ some g) × ((register_at st v).class ≡ k)

abbrev pub NonEmpty : List (Option VirtReg) → Type 0
NonEmpty ms = (v : VirtReg) × (memb ms v ≡ true)

-- an operand that is mapped to group g, one of n groups, asks for a class that admits g's
abbrev Asks : Job → ℕ → (VirtRegGroup → RegClass) → Inst → ℕ → VirtRegGroup → Type 0
Asks job n κ i s g = (g.0 < n) × In job (κ g) (asked job i s)

-- κ gives each group's class
pub record Sound (job : Job) (st : State) (κ : VirtRegGroup → RegClass) : Type 0 where
  pub served : (v : VirtReg) → v.0 < length st.registers → All (λ p. All (Serves job (register_at st v).class) p.seg.uses) (register_at st v).pieces
  pub grouped : (g : VirtRegGroup) → g.0 < length st.groups → All (Is st g (κ g)) (members_at st g) × NonEmpty (members_at st g)
  pub mapped : AllMapped (Asks job (length st.groups) κ) st.mapping

-- what the entry rules say of a group use: its class is its operand's, of two places or more, and its place is one of them
abbrev pub GroupUse : Job → Inst → ℕ → RegClass → ℕ → Type 0
GroupUse job p s c i = (asked job p s ≡ c) × (2 ≤ size_of job c) × (i < size_of job c)

abbrev pub KindFits : Job → Inst → UseKind → Type 0
KindFits job p k = KindIs (GroupUse job p) k

-- a class of two places or more has subclasses of its own size only
abbrev pub Sizes : Job → Type 0
Sizes job = (c k : RegClass) → In job k c → 2 ≤ size_of job c → size_of job k ≡ size_of job c

-- ---- what is held

abbrev TargetIn : State → VirtRegGroup → Option VirtReg → Type 0
TargetIn st g none = Unit {0}
TargetIn st g (some v) = memb (members_at st g) v ≡ true

abbrev MappedOk : Job → State → (VirtRegGroup → RegClass) → RegClass → Option VirtReg → Option VirtRegGroup → Type 0
MappedOk job st κ c t none = t ≡ none
MappedOk job st κ c t (some g) = (g.0 < length st.groups) × In job c (κ g) × TargetIn st g t

abbrev GroupOk : Job → State → (VirtRegGroup → RegClass) → RegClass → Option VirtReg → Option HeldGroup → Type 0
GroupOk job st κ c t none = t ≡ none
GroupOk job st κ c t (some hg) = (hg.index < size_of job c) × (2 ≤ size_of job c) × MappedOk job st κ c t hg.mapped

abbrev pub HeldOk : Job → State → (VirtRegGroup → RegClass) → Held → Type 0
HeldOk job st κ h = GroupOk job st κ h.class h.target h.group

module _ (job : Job) (ms : Masks job) (tr : Transitive job) (sz : Sizes job) (st : State) (κ : VirtRegGroup → RegClass) (ok : Sound job st κ) where
  -- a narrower class keeps what is held
  narrow_mapped : (c d : RegClass) (t : Option VirtReg) (m : Option VirtRegGroup) → In job d c → MappedOk job st κ c t m → MappedOk job st κ d t m
  narrow_mapped c d t none i h = h
  narrow_mapped c d t (some g) i h = (h.0, tr (κ g) c d h.1 i, h.2)

  narrow_group : (c d : RegClass) (t : Option VirtReg) (g : Option HeldGroup) → In job d c → GroupOk job st κ c t g → GroupOk job st κ d t g
  narrow_group c d t none i h = h
  narrow_group c d t (some hg) i h =
      let s : size_of job d ≡ size_of job c = sz c d i h.1 in
      (omega arith, omega arith, narrow_mapped c d t hg.mapped i h.2)

  -- narrowed by members of class k, each in turn
  narrowed_in : (g : VirtRegGroup) (mem : List (Option VirtReg)) (k n : RegClass) → All (Is st g (κ g)) mem → narrowed job st mem k ≡ some n
      → Below job n k × ((v : VirtReg) → memb mem v ≡ true → In job n (κ g))
  unfolding narrowed
  narrowed_in g [] k n h e = let q : n ≡ k = sym (some-injective _ _ e) in (inl q, λ v f. let z : ◌≡◌ {A = ℕ} 0 1 = cc in absurd (omega arith))
  narrowed_in g (none ∷ mem) k n h e = narrowed_in g mem k n h.1 e
  narrowed_in g (some u ∷ mem) k n h e =
      let r = bind_some (common_subclass job k (register_at st u).class) _ n e in
      let i = common_in job k (register_at st u).class r.0 ms r.1 in
      let b = narrowed_in g mem r.0 n h.1 r.2 in
      let up : In job r.0 (κ g) = subst (λ (x : RegClass). In job r.0 x) h.0.2 i.1 in
      (below_trans job ms tr n r.0 k b.0 (inr i.0), λ v f. below_in job ms tr n r.0 (κ g) b.0 up)

  -- ---- a group use

  target_none : (c : RegClass) (t : Option VirtReg) (gr : Option HeldGroup) (i : ℕ) (sets : List ValueSet) → GroupOk job st κ c t gr → group_fits gr i none sets ≡ true → t ≡ none
  unfolding group_fits
  target_none c t none i sets h e = h
  target_none c t (some hg) i sets h e = go hg.mapped h.2 (fits_parts hg i none sets e).1
    where
      go : (m : Option VirtRegGroup) → MappedOk job st κ c t m → mapping_fits m none ≡ true → t ≡ none
      go none k f = k
      go (some g) k f = let z : ◌≡◌ {A = ℕ} 0 1 = cc in absurd (omega arith)

  target_in : (c : RegClass) (t : Option VirtReg) (gr : Option HeldGroup) (i : ℕ) (g : VirtRegGroup) (sets : List ValueSet) → GroupOk job st κ c t gr → group_fits gr i (some g) sets ≡ true → TargetIn st g t
  unfolding group_fits
  target_in c t none i g sets h e = subst (TargetIn st g) (sym h) tt
  target_in c t (some hg) i g sets h e = go hg.mapped h.2 (fits_parts hg i (some g) sets e).1
    where
      go : (m : Option VirtRegGroup) → MappedOk job st κ c t m → mapping_fits m (some g) ≡ true → TargetIn st g t
      go none k f = subst (TargetIn st g) (sym k) tt
      go (some g') k f = let q : g' ≡ g = same_group g' g f in subst (λ (x : VirtRegGroup). TargetIn st x t) q k.2

  abbrev Taken : Held → RegClass → Option VirtRegGroup → RegClass × Option VirtReg → Type 0
  Taken h c m n = In job n.0 h.class × In job n.0 c × MappedOk job st κ n.0 n.1 m

  place_step : (h : Held) (c k : RegClass) (g : VirtRegGroup) (o : Option VirtReg) (n : RegClass × Option VirtReg) → In job k h.class → In job k c → g.0 < length st.groups → In job (κ g) c → TargetIn st g h.target
      → Is st g (κ g) o → ((v : VirtReg) → o ≡ some v → memb (members_at st g) v ≡ true) → at_place job st h k (members_at st g) o ≡ some n → Taken h c (some g) n
  unfolding at_place
  place_step h c k g none n a b l up t is me e =
      let r = bind_some (narrowed job st (members_at st g) k) _ n e in
      let gr = ok.grouped g l in
      let w = narrowed_in g (members_at st g) k r.0 gr.0 r.1 in
      subst (Taken h c (some g)) (some-injective _ _ r.2)
      (below_in job ms tr r.0 k h.class w.0 a, below_in job ms tr r.0 k c w.0 b, (l, w.1 gr.1.0 gr.1.1, t))
  place_step h c k g (some v) n a b l up t is me e =
      let r = bind_some (common_subclass job h.class (register_at st v).class) _ n e in
      let i = common_in job h.class (register_at st v).class r.0 ms r.1 in
      let j : In job r.0 (κ g) = subst (λ (x : RegClass). In job r.0 x) is.2 i.1 in
      subst (Taken h c (some g)) (some-injective _ _ r.2) (i.0, tr c (κ g) r.0 up j, (l, j, me v refl))

  in_step : (h : Held) (p : Inst) (s : ℕ) (c k : RegClass) (i : ℕ) (m : Option VirtRegGroup) (sets : List ValueSet) (n : RegClass × Option VirtReg) → HeldOk job st κ h → asked job p s ≡ c → mapped_at st.mapping p s ≡ m
      → group_fits h.group i m sets ≡ true → In job k h.class → In job k c → in_group job st h k i m ≡ some n → Taken h c m n
  unfolding in_group
  in_step h p s c k i none sets n o q f fit a b e =
      subst (Taken h c none) (some-injective _ _ e) (a, b, target_none h.class h.target h.group i sets o fit)
  in_step h p s c k i (some g) sets n o q f fit a b e =
      let d = mapped_found (Asks job (length st.groups) κ) st.mapping p s g ok.mapped f in
      let up : In job (κ g) c = subst (λ (x : RegClass). In job (κ g) x) q d.1 in
      place_step h c k g (get_or (members_at st g) i none) n a b d.0 up (target_in h.class h.target h.group i g sets o fit)
      (all_get_d (Is st g (κ g)) (members_at st g) i none (ok.grouped g d.0).0 tt) (λ v. get_or_memb (members_at st g) i v) e

  abbrev Next : Held → Held → UseKind → Type 0
  Next h g k = Below job g.class h.class × ((c : RegClass) → class_of k ≡ some c → In job g.class c) × HeldOk job st κ g

  group_step : (h : Held) (p : Inst) (s : ℕ) (c : RegClass) (i : ℕ) (g : Held) (k : UseKind) → class_of k ≡ some c → HeldOk job st κ h → GroupUse job p s c i → admit_group job st h p s c i ≡ some g → Next h g k
  unfolding admit_group
  group_step h p s c i g k f o u e =
      let m = mapped_at st.mapping p s in
      let sets = sets_at job p s in
      let r = bind_some (common_subclass job h.class c) _ g e in
      let j = common_in job h.class c r.0 ms r.1 in
      let t = bind_some (guard (group_fits h.group i m sets)) _ g r.2 in
      let fit = guarded (group_fits h.group i m sets) t.0 t.1 in
      let n = bind_some (in_group job st h r.0 i m) _ g t.2 in
      let w = in_step h p s c r.0 i m sets n.0 o u.0 refl fit j.0 j.1 n.1 in
      let size : size_of job n.0.0 ≡ size_of job c = sz c n.0.0 w.1 u.1 in
      let made' : Held = record { class = n.0.0; group = some (record { index = i; mapped = m; sets = sets }); target = n.0.1 } in
      let q : made' ≡ g = some-injective _ _ n.2 in
      subst (λ (x : Held). Next h x k) q
      (inr w.0, (λ d a. let y : c ≡ d = cc in subst (λ (x : RegClass). In job n.0.0 x) y w.1), (omega arith, omega arith, w.2))

  plain_next : (h g : Held) (k : UseKind) → HeldOk job st κ h → some h ≡ some g → class_of k ≡ none → Next h g k
  plain_next h g k o e f =
      let s = same_step job ms tr h g k e f in
      (s.0, s.1, subst (HeldOk job st κ) (some-injective h g e) o)

  class_next : (h : Held) (c : RegClass) (g : Held) (k : UseKind) → HeldOk job st κ h → class_of k ≡ some c → admit_class job h c ≡ some g → Next h g k
  unfolding admit_class
  class_next h c g k o f e =
      let s = class_step job ms tr h c g k f e in
      let r = bind_some (common_subclass job h.class c) _ g e in
      let j = common_in job h.class c r.0 ms r.1 in
      (s.0, s.1, subst (HeldOk job st κ) (some-injective _ _ r.2) (narrow_group h.class r.0 h.target h.group j.0 o))

  kind_next : (h : Held) (p : Inst) (k : UseKind) (g : Held) → HeldOk job st κ h → KindFits job p k → admit_kind job st h p k ≡ some g → Next h g k
  kind_next h p k g o u e =
      kind_cases job st h g p (GroupUse job p) (Next h g) (λ k n m f. plain_next h g k o f n) (λ k c n m f. class_next h c g k o n f)
      (λ k s c i n m a f. group_step h p s c i g k n o a f) k u e

  -- a scan that goes through, groups and all
  pub scan_sound : (us : List Use) (h g : Held) → HeldOk job st κ h → All (λ u. KindFits job u.pos u.kind) us → scan job st us h ≡ through g
      → Below job g.class h.class × All (Serves job g.class) us × HeldOk job st κ g
  unfolding scan admit
  scan_sound [] h g o n e = let q : h ≡ g = cc in (inl (ap (λ (x : Held). x.class) (sym q)), tt, subst (HeldOk job st κ) q o)
  scan_sound (u ∷ us) h g o n e =
      let r = scan_step job st u us h g e in
      let k = r.0 in
      let s = kind_next h u.pos u.kind k o n.0 r.1 in
      let i = scan_sound us k g s.2 n.1 r.2 in
      (below_trans job ms tr g.class k.class h.class i.0 s.0, (serves_below job ms tr g.class k.class u i.0 s.1, i.1), i.2)

-- ---- placing

-- groups other than g keep their class; g has class c
abbrev over : (VirtRegGroup → RegClass) → VirtRegGroup → RegClass → VirtRegGroup → RegClass
over κ g c x = cond (eqb x.0 g.0) c (κ x)

over_same : (κ : VirtRegGroup → RegClass) (g : VirtRegGroup) (c : RegClass) → over κ g c g ≡ c
over_same κ g c = rw (eq-eqb g.0 g.0 refl)

over_other : (κ : VirtRegGroup → RegClass) (g : VirtRegGroup) (c : RegClass) (x : VirtRegGroup) → (x.0 ≡ g.0 → ⊥) → over κ g c x ≡ κ x
over_other κ g c x h = rw (ne_eqb x.0 g.0 h)

module _ (job : Job) where
  abbrev pub ServedIn : RegClass → List Piece → Type 0
  ServedIn c ps = All (λ p. All (Serves job c) p.seg.uses) ps

  abbrev AllServed : List Register → Type 0
  AllServed rs = (v : VirtReg) → v.0 < length rs → ServedIn (nth rs v).class (nth rs v).pieces

  abbrev IsIn : List Register → VirtRegGroup → RegClass → Option VirtReg → Type 0
  IsIn rs g k none = Unit {0}
  IsIn rs g k (some v) = (v.0 < length rs) × ((nth rs v).group ≡ some g) × ((nth rs v).class ≡ k)

  served_snoc : (rs : List Register) (r : Register) → AllServed rs → ServedIn r.class r.pieces → AllServed (rs ++ (r ∷ []))
  served_snoc rs r h k v l = go (ltb v.0 (length rs)) refl
    where
      go : (b : Bool) → ltb v.0 (length rs) ≡ b → ServedIn (nth (rs ++ (r ∷ [])) v).class (nth (rs ++ (r ∷ [])) v).pieces
      go true e = let q = ltb-true v.0 (length rs) e in subst (λ (x : Register). ServedIn x.class x.pieces) (sym (nth_left rs r v q)) (h v q)
      go false e =
          let q : length rs ≤ v.0 = ltb-false v.0 (length rs) e in
          let n : v.0 ≡ length rs = omega (arith, length-append rs (r ∷ [])) in
          subst (λ (x : Register). ServedIn x.class x.pieces) (sym (ap (λ (i : ℕ). nth (rs ++ (r ∷ [])) (vreg i)) n ∙ nth_last rs r)) k

  is_snoc : (rs : List Register) (r : Register) (g : VirtRegGroup) (k : RegClass) (o : Option VirtReg) → IsIn rs g k o → IsIn (rs ++ (r ∷ [])) g k o
  is_snoc rs r g k none h = tt
  is_snoc rs r g k (some v) h =
      let e = nth_left rs r v h.0 in
      (omega (arith, length-append rs (r ∷ [])), ap (λ (x : Register). x.group) e ∙ h.1, ap (λ (x : Register). x.class) e ∙ h.2)

  is_last : (rs : List Register) (r : Register) (g : VirtRegGroup) → r.group ≡ some g → IsIn (rs ++ (r ∷ [])) g r.class (some (vreg (length rs)))
  is_last rs r g e =
      let q = nth_last rs r in
      (omega (arith, length-append rs (r ∷ [])), ap (λ (x : Register). x.group) q ∙ e, ap (λ (x : Register). x.class) q)

-- ---- the four ways of placing keep the tables sound

module _ (job : Job) (ms : Masks job) (tr : Transitive job) (st : State) (κ : VirtRegGroup → RegClass) (ok : Sound job st κ) (set' : ValueSet) (h : Held) (new : List Piece) (sv : ServedIn job h.class new) where
  abbrev rs₀ : List Register
  rs₀ = st.registers

  served₀ : AllServed job rs₀
  unfolding register_at
  served₀ = ok.served

  grouped₀ : (g : VirtRegGroup) → g.0 < length st.groups → All (IsIn job rs₀ g (κ g)) (members_at st g) × NonEmpty (members_at st g)
  unfolding register_at
  grouped₀ g l = let q = ok.grouped g l in (all_map (Is st g (κ g)) (IsIn job rs₀ g (κ g)) same_is (members_at st g) q.0, q.1)
    where
      same_is : (o : Option VirtReg) → Is st g (κ g) o → IsIn job rs₀ g (κ g) o
      same_is none k = tt
      same_is (some v) k = k

  -- from facts on the lists to the state
  make : (st' : State) (κ' : VirtRegGroup → RegClass) → AllServed job st'.registers
      → ((g : VirtRegGroup) → g.0 < length st'.groups → All (IsIn job st'.registers g (κ' g)) (members_at st' g) × NonEmpty (members_at st' g))
      → AllMapped (Asks job (length st'.groups) κ') st'.mapping → Sound job st' κ'
  unfolding register_at
  make st' κ' a b c = record {
    served = a;
    grouped = λ g l. (all_map (IsIn job st'.registers g (κ' g)) (Is st' g (κ' g)) (same_is g) (members_at st' g) (b g l).0, (b g l).1);
    mapped = c;
  }
    where
      same_is : (g : VirtRegGroup) (o : Option VirtReg) → IsIn job st'.registers g (κ' g) o → Is st' g (κ' g) o
      same_is g none k = tt
      same_is g (some v) k = k

  alone_sound : Sound job (alone_state job set' h new st) κ
  unfolding alone_state members_at
  alone_sound =
      let r = made set' h (weight_of job h.class (segs_of new)) none 0 new in
      make (alone_state job set' h new st) κ (served_snoc job rs₀ r served₀ sv)
      (λ g l. let q = grouped₀ g l in (all_map (IsIn job rs₀ g (κ g)) (IsIn job (rs₀ ++ (r ∷ [])) g (κ g)) (is_snoc job rs₀ r g (κ g)) (members_at st g) q.0, q.1))
      ok.mapped

  -- ---- spreading class c over the members of group g; rs is the registers, or those with pieces merged into a member
  module _ (g : VirtRegGroup) (l : g.0 < length st.groups) (w : Float) (i : In job h.class (κ g)) (rs : List Register) (len : length rs ≡ length rs₀)
      (groups' : (v : VirtReg) → (nth rs v).group ≡ (nth rs₀ v).group) (classes' : (v : VirtReg) → (nth rs v).class ≡ (nth rs₀ v).class)
      (inside : (v : VirtReg) → v.0 < length rs₀ → memb (members_at st g) v ≡ true → ServedIn job h.class (nth rs v).pieces)
      (outside : (v : VirtReg) → memb (members_at st g) v ≡ false → (nth rs v).pieces ≡ (nth rs₀ v).pieces) where
    abbrev mem : List (Option VirtReg)
    mem = members_at st g

    abbrev spread' : List Register
    spread' = spread h.class w mem rs

    within : Inside h.class w (length rs) mem
    within = all_map (IsIn job rs₀ g (κ g)) (λ o. (u : VirtReg) → o ≡ some u → u.0 < length rs) bound mem (grouped₀ g l).0
      where
        bound : (o : Option VirtReg) → IsIn job rs₀ g (κ g) o → (u : VirtReg) → o ≡ some u → u.0 < length rs
        bound none k u e = let z : ◌≡◌ {A = ℕ} 0 1 = cc in absurd (omega arith)
        bound (some v) k u e = let q : v ≡ u = some-injective v u e in omega (arith, ap (λ (x : VirtReg). x.0) q)

    spread_length : length spread' ≡ length rs₀
    spread_length = go mem rs ∙ len
      where
        go : (ns : List (Option VirtReg)) (qs : List Register) → length (spread h.class w ns qs) ≡ length qs
        go ns qs = spread_len h.class w ns qs

    spread_served : AllServed job spread'
    spread_served v k = go (memb mem v) refl
      where
        at : ((nth spread' v).pieces ≡ (nth rs v).pieces) × ((nth spread' v).group ≡ (nth rs v).group)
        at = spread_at h.class w mem rs v within

        go : (b : Bool) → memb mem v ≡ b → ServedIn job (nth spread' v).class (nth spread' v).pieces
        go true e =
            let c : (nth spread' v).class ≡ h.class = spread_in h.class w mem rs v within e in
            subst (λ (ps : List Piece). ServedIn job (nth spread' v).class ps) (sym at.0)
            (subst (λ (x : RegClass). ServedIn job x (nth rs v).pieces) (sym c) (inside v (omega (arith, spread_length)) e))
        go false e =
            let q : nth spread' v ≡ nth rs v = spread_out h.class w mem rs v e in
            let s : ServedIn job (nth rs₀ v).class (nth rs₀ v).pieces = served₀ v (omega (arith, spread_length)) in
            subst (λ (x : Register). ServedIn job x.class x.pieces) (sym q)
            (subst (λ (x : RegClass). ServedIn job x (nth rs v).pieces) (sym (classes' v))
            (subst (λ (ps : List Piece). ServedIn job (nth rs₀ v).class ps) (sym (outside v e)) s))

    spread_own : All (IsIn job spread' g h.class) mem
    spread_own = all_memb (IsIn job spread' g h.class) mem tt own
      where
        own : (v : VirtReg) → memb mem v ≡ true → IsIn job spread' g h.class (some v)
        own v e =
            let a = memb_all (IsIn job rs₀ g (κ g)) mem v (grouped₀ g l).0 e in
            (omega (arith, spread_length), (spread_at h.class w mem rs v within).1 ∙ groups' v ∙ a.1, spread_in h.class w mem rs v within e)

    spread_other : (f : VirtRegGroup) (o : Option VirtReg) → (f.0 ≡ g.0 → ⊥) → IsIn job rs₀ f (κ f) o → IsIn job spread' f (κ f) o
    spread_other f none n a = tt
    spread_other f (some v) n a = go (memb mem v) refl
      where
        go : (b : Bool) → memb mem v ≡ b → IsIn job spread' f (κ f) (some v)
        go true e =
            let m = memb_all (IsIn job rs₀ g (κ g)) mem v (grouped₀ g l).0 e in
            absurd (n (ap (λ (x : VirtRegGroup). x.0) (some-injective f g (sym a.1 ∙ m.1))))
        go false e =
            let q : nth spread' v ≡ nth rs v = spread_out h.class w mem rs v e in
            (omega (arith, spread_length), ap (λ (r : Register). r.group) q ∙ groups' v ∙ a.1, ap (λ (r : Register). r.class) q ∙ classes' v ∙ a.2)

    -- the mapping, with g's class narrowed
    spread_mapped : AllMapped (Asks job (length st.groups) (over κ g h.class)) st.mapping
    spread_mapped = all_map _ _ go st.mapping ok.mapped
      where
        go : (m : Mapped) → Asks job (length st.groups) κ m.inst m.slot m.group → Asks job (length st.groups) (over κ g h.class) m.inst m.slot m.group
        go m a = (a.0, by (eqb m.group.0 g.0) refl)
          where
            by : (b : Bool) → eqb m.group.0 g.0 ≡ b → In job (cond b h.class (κ m.group)) (asked job m.inst m.slot)
            by true e =
                let q : m.group ≡ g = same_group m.group g e in
                tr (asked job m.inst m.slot) (κ g) h.class (subst (λ (x : VirtRegGroup). In job (κ x) (asked job m.inst m.slot)) q a.1) i
            by false e = a.1

  served_narrow : (c k : RegClass) (ps : List Piece) → In job c k → ServedIn job k ps → ServedIn job c ps
  served_narrow c k ps i a =
      all_map (λ p. All (Serves job k) p.seg.uses) (λ p. All (Serves job c) p.seg.uses)
      (λ p. all_map (Serves job k) (Serves job c) (λ u s d e. tr d k c (s d e) i) p.seg.uses) ps a

  -- members of g, served by g's class, are served by a narrower one
  members_served : (g : VirtRegGroup) → g.0 < length st.groups → In job h.class (κ g) → (v : VirtReg) → v.0 < length rs₀ → memb (members_at st g) v ≡ true → ServedIn job h.class (nth rs₀ v).pieces
  members_served g l i v k e =
      let a = memb_all (IsIn job rs₀ g (κ g)) (members_at st g) v (grouped₀ g l).0 e in
      served_narrow h.class (κ g) (nth rs₀ v).pieces i (subst (λ (x : RegClass). ServedIn job x (nth rs₀ v).pieces) a.2 (served₀ v k))

  set_nonempty : (ns : List (Option VirtReg)) (i : ℕ) (n : VirtReg) → NonEmpty ns → NonEmpty (set ns i (some n))
  set_nonempty [] i n a = a
  set_nonempty (o ∷ ns) zero n a = (n, rw (eq-eqb n.0 n.0 refl))
  set_nonempty (none ∷ ns) (suc i) n a = set_nonempty ns i n a
  set_nonempty (some u ∷ ns) (suc i) n a = (u, rw (eq-eqb u.0 u.0 refl))

  join_sound : (hg : HeldGroup) (g : VirtRegGroup) → g.0 < length st.groups → In job h.class (κ g) → Sound job (join_state job set' h hg g new st) (over κ g h.class)
  unfolding join_state members_at
  join_sound hg g l i =
      let mem' = members_at st g in
      let w = group_weight job h hg mem' new st in
      let r = made set' h w (some g) hg.index new in
      let sp = spread h.class w mem' rs₀ in
      let len : length sp ≡ length rs₀ = spread_len h.class w mem' rs₀ in
      let ins = members_served g l i in
      let X = set mem' hg.index (some (vreg (length rs₀))) in
      let own' : All (IsIn job (sp ++ (r ∷ [])) g h.class) X =
      all_set (IsIn job (sp ++ (r ∷ [])) g h.class) mem' hg.index (some (vreg (length rs₀)))
      (all_map (IsIn job sp g h.class) (IsIn job (sp ++ (r ∷ [])) g h.class) (is_snoc job sp r g h.class) mem'
      (spread_own g l w i rs₀ refl (λ v. refl) (λ v. refl) ins (λ v e. refl)))
      (subst (λ (n : ℕ). IsIn job (sp ++ (r ∷ [])) g h.class (some (vreg n))) len (is_last job sp r g refl)) in
      let by : (f : VirtRegGroup) → f.0 < length (set st.groups g.0 X) → (b : Bool) → eqb f.0 g.0 ≡ b
      → All (IsIn job (sp ++ (r ∷ [])) f (cond b h.class (κ f))) (get_or (set st.groups g.0 X) f.0 []) × NonEmpty (get_or (set st.groups g.0 X) f.0 []) =
      λ f k b. elim b as (λ (v : Bool). eqb f.0 g.0 ≡ v
      → All (IsIn job (sp ++ (r ∷ [])) f (cond v h.class (κ f))) (get_or (set st.groups g.0 X) f.0 []) × NonEmpty (get_or (set st.groups g.0 X) f.0 [])) [
        | true ↦ λ e.
            let q : f ≡ g = same_group f g e in
            let s : get_or (set st.groups g.0 X) g.0 [] ≡ X = get_or-set_same st.groups g.0 X [] l in
            subst (λ (x : VirtRegGroup). All (IsIn job (sp ++ (r ∷ [])) x h.class) (get_or (set st.groups g.0 X) x.0 []) × NonEmpty (get_or (set st.groups g.0 X) x.0 [])) (sym q)
            (subst (λ (y : List (Option VirtReg)). All (IsIn job (sp ++ (r ∷ [])) g h.class) y × NonEmpty y) (sym s)
            (own', set_nonempty mem' hg.index (vreg (length rs₀)) (grouped₀ g l).1))
        | false ↦ λ e.
            let n = eqb-false f.0 g.0 e in
            let s : get_or (set st.groups g.0 X) f.0 [] ≡ get_or st.groups f.0 [] = get_or-set_other st.groups g.0 f.0 X [] n in
            let k' : f.0 < length st.groups = omega (arith, length-set st.groups g.0 X) in
            let q = grouped₀ f k' in
            subst (λ (y : List (Option VirtReg)). All (IsIn job (sp ++ (r ∷ [])) f (κ f)) y × NonEmpty y) (sym s) (
              all_map (IsIn job rs₀ f (κ f)) (IsIn job (sp ++ (r ∷ [])) f (κ f))
                  (λ o a. is_snoc job sp r f (κ f) o (spread_other g l w i rs₀ refl (λ v. refl) (λ v. refl) ins (λ v d. refl) f o n a)) (members_at st f) q.0,
              q.1,
            )
      ] in
      make (join_state job set' h hg g new st) (over κ g h.class)
      (served_snoc job sp r (spread_served g l w i rs₀ refl (λ v. refl) (λ v. refl) ins (λ v e. refl)) sv)
      (λ f k. by f k (eqb f.0 g.0) refl)
      (rw (length-set st.groups g.0 X) (spread_mapped g l w i rs₀ refl (λ v. refl) (λ v. refl) ins (λ v e. refl)))

  merge_sound : (hg : HeldGroup) (g : VirtRegGroup) (v : VirtReg) → g.0 < length st.groups → In job h.class (κ g) → memb (members_at st g) v ≡ true
      → Sound job (merge_state job h hg g v new st) (over κ g h.class)
  unfolding merge_state members_at register_at
  merge_sound hg g v l i me =
      let mem' = members_at st g in
      let old = (nth rs₀ v).pieces in
      let ps = inserted (first_from new) new old in
      let w = group_weight job h hg mem' ps st in
      let rs = update (with_pieces ps) v.0 rs₀ in
      let vl : v.0 < length rs₀ = (memb_all (IsIn job rs₀ g (κ g)) mem' v (grouped₀ g l).0 me).0 in
      let len : length rs ≡ length rs₀ = update_length (with_pieces ps) v.0 rs₀ in
      let at : (u : VirtReg) (b : Bool) → eqb v.0 u.0 ≡ b → ((nth rs u).group ≡ (nth rs₀ u).group) × ((nth rs u).class ≡ (nth rs₀ u).class) =
      λ u b. elim b as (λ (w : Bool). eqb v.0 u.0 ≡ w → ((nth rs u).group ≡ (nth rs₀ u).group) × ((nth rs u).class ≡ (nth rs₀ u).class)) [
        | true ↦ λ e.
            let q : v ≡ u = same_vreg v u e in
            let s = update_same (with_pieces ps) v.0 rs₀ vl in
            subst (λ (x : VirtReg). ((nth rs x).group ≡ (nth rs₀ x).group) × ((nth rs x).class ≡ (nth rs₀ x).class)) q (ap (λ (r : Register). r.group) s, ap (λ (r : Register). r.class) s)
        | false ↦ λ e.
            let s = update_other (with_pieces ps) v.0 u.0 rs₀ (eqb-false v.0 u.0 e) in
            (ap (λ (r : Register). r.group) s, ap (λ (r : Register). r.class) s)
      ] in
      let inside' : (u : VirtReg) → u.0 < length rs₀ → memb mem' u ≡ true → (b : Bool) → eqb v.0 u.0 ≡ b → ServedIn job h.class (nth rs u).pieces =
      λ u k m b. elim b as (λ (w : Bool). eqb v.0 u.0 ≡ w → ServedIn job h.class (nth rs u).pieces) [
        | true ↦ λ e.
            let q : v ≡ u = same_vreg v u e in
            let s = update_same (with_pieces ps) v.0 rs₀ vl in
            subst (λ (x : VirtReg). ServedIn job h.class (nth rs x).pieces) q
            (subst (λ (r : Register). ServedIn job h.class r.pieces) (sym s)
            (all_inserted (λ p. All (Serves job h.class) p.seg.uses) (first_from new) new old sv (members_served g l i v vl me)))
        | false ↦ λ e.
            subst (λ (r : Register). ServedIn job h.class r.pieces) (sym (update_other (with_pieces ps) v.0 u.0 rs₀ (eqb-false v.0 u.0 e))) (members_served g l i u k m)
      ] in
      let outside' : (u : VirtReg) → memb mem' u ≡ false → (b : Bool) → eqb v.0 u.0 ≡ b → (nth rs u).pieces ≡ (nth rs₀ u).pieces =
      λ u m b. elim b as (λ (w : Bool). eqb v.0 u.0 ≡ w → (nth rs u).pieces ≡ (nth rs₀ u).pieces) [
        | true ↦ λ e.
            let q : v ≡ u = same_vreg v u e in
            let t : memb mem' u ≡ true = subst (λ (x : VirtReg). memb mem' x ≡ true) q me in
            let z : ◌≡◌ {A = ℕ} 0 1 = cc in absurd (omega arith)
        | false ↦ λ e. ap (λ (r : Register). r.pieces) (update_other (with_pieces ps) v.0 u.0 rs₀ (eqb-false v.0 u.0 e))
      ] in
      let A : (u : VirtReg) → (nth rs u).group ≡ (nth rs₀ u).group = λ u. (at u (eqb v.0 u.0) refl).0 in
      let B : (u : VirtReg) → (nth rs u).class ≡ (nth rs₀ u).class = λ u. (at u (eqb v.0 u.0) refl).1 in
      let C : (u : VirtReg) → u.0 < length rs₀ → memb mem' u ≡ true → ServedIn job h.class (nth rs u).pieces = λ u k m. inside' u k m (eqb v.0 u.0) refl in
      let D : (u : VirtReg) → memb mem' u ≡ false → (nth rs u).pieces ≡ (nth rs₀ u).pieces = λ u m. outside' u m (eqb v.0 u.0) refl in
      let sp = spread h.class w mem' rs in
      let by : (f : VirtRegGroup) → f.0 < length st.groups → (b : Bool) → eqb f.0 g.0 ≡ b
      → All (IsIn job sp f (cond b h.class (κ f))) (members_at st f) × NonEmpty (members_at st f) =
      λ f k b. elim b as (λ (w : Bool). eqb f.0 g.0 ≡ w → All (IsIn job sp f (cond w h.class (κ f))) (members_at st f) × NonEmpty (members_at st f)) [
        | true ↦ λ e.
            let q : f ≡ g = same_group f g e in
            subst (λ (x : VirtRegGroup). All (IsIn job sp x h.class) (members_at st x) × NonEmpty (members_at st x)) (sym q) (spread_own g l w i rs len A B C D, (grouped₀ g l).1)
        | false ↦ λ e.
            let n = eqb-false f.0 g.0 e in
            let q = grouped₀ f k in
            (all_map (IsIn job rs₀ f (κ f)) (IsIn job sp f (κ f)) (λ o a. spread_other g l w i rs len A B C D f o n a) (members_at st f) q.0, q.1)
      ] in
      make (merge_state job h hg g v new st) (over κ g h.class) (spread_served g l w i rs len A B C D) (λ f k. by f k (eqb f.0 g.0) refl) (spread_mapped g l w i rs len A B C D)

  -- ---- a new group

  asked_of : (p : Inst) (k : UseKind) (s : ℕ) → KindFits job p k → slot_of k ≡ some s → class_of k ≡ some (asked job p s)
  asked_of p (FixedDef r) s u e = cc
  asked_of p (FixedUse r) s u e = cc
  asked_of p (TiedUse a b c i) s u e = cc
  asked_of p ConstraintConflict s u e = cc
  asked_of p (ClassUse t c) s u e = cc
  asked_of p (ClassDef t c) s u e = cc
  asked_of p (GroupClassUse t c i) s u e = let q : t ≡ s = cc in subst (λ (x : ℕ). some c ≡ some (asked job p x)) q (ap some (sym u.0))
  asked_of p (GroupClassDef t c i) s u e = let q : t ≡ s = cc in subst (λ (x : ℕ). some c ≡ some (asked job p x)) q (ap some (sym u.0))
  asked_of p (BlockparamIn q) s u e = cc
  asked_of p BlockparamOut s u e = cc

  -- with the new group g, of the class held
  abbrev Entered : VirtRegGroup → Inst → ℕ → VirtRegGroup → Type 0
  Entered g = Asks job (suc g.0) (over κ g h.class)

  new_entries : (g : VirtRegGroup) (us : List Use) → All (λ u. KindFits job u.pos u.kind) us → All (Serves job h.class) us
      → All (λ u. (s : ℕ) → slot_of u.kind ≡ some s → Entered g u.pos s g) us
  new_entries g [] f a = tt
  new_entries g (u ∷ us) f a = (here, new_entries g us f.1 a.1)
    where
      here : (s : ℕ) → slot_of u.kind ≡ some s → Entered g u.pos s g
      here s e =
          (omega arith, subst (λ (x : RegClass). In job x (asked job u.pos s)) (sym (over_same κ g h.class)) (a.0 (asked job u.pos s) (asked_of u.pos u.kind s f.0 e)))

  replicate_is : (rs : List Register) (g : VirtRegGroup) (k : RegClass) (n : ℕ) → All (IsIn job rs g k) (replicate n none)
  replicate_is rs g k zero = tt
  replicate_is rs g k (suc n) = (tt, replicate_is rs g k n)

  set_memb : (n i : ℕ) (v : VirtReg) → i < n → memb (set (replicate n none) i (some v)) v ≡ true
  set_memb zero i v k = absurd (omega arith)
  set_memb (suc n) zero v k = rw (eq-eqb v.0 v.0 refl)
  set_memb (suc n) (suc i) v k = set_memb n i v (omega arith)

  lead_sound : (hg : HeldGroup) (o : Option (List Mapped)) → hg.index < size_of job h.class → OnMapped (Entered (vrgroup (length st.groups))) o
      → Sound job (lead_state job set' h hg new st (or_else o [])) (over κ (vrgroup (length st.groups)) h.class)
  unfolding lead_state members_at
  lead_sound hg o k a =
      let g = vrgroup (length st.groups) in
      let r = made set' h (weight_of job h.class (segs_of new)) (some g) hg.index new in
      let rs = rs₀ ++ (r ∷ []) in
      let X = set (replicate (size_of job h.class) none) hg.index (some (vreg (length rs₀))) in
      let gs = st.groups ++ (X ∷ []) in
      let len : length gs ≡ suc g.0 = omega (arith, length-append st.groups (X ∷ [])) in
      let last : get_or gs g.0 [] ≡ X = ap (λ (i : ℕ). get_or gs i []) (omega arith) ∙ get_or-append-add st.groups (X ∷ []) 0 [] in
      let by : (f : VirtRegGroup) → f.0 < length gs → (b : Bool) → eqb f.0 g.0 ≡ b → All (IsIn job rs f (cond b h.class (κ f))) (get_or gs f.0 []) × NonEmpty (get_or gs f.0 []) =
      λ f l b. elim b as (λ (v : Bool). eqb f.0 g.0 ≡ v → All (IsIn job rs f (cond v h.class (κ f))) (get_or gs f.0 []) × NonEmpty (get_or gs f.0 [])) [
        | true ↦ λ e.
            let q : f ≡ g = same_group f g e in
            subst (λ (x : VirtRegGroup). All (IsIn job rs x h.class) (get_or gs x.0 []) × NonEmpty (get_or gs x.0 [])) (sym q)
            (subst (λ (y : List (Option VirtReg)). All (IsIn job rs g h.class) y × NonEmpty y) (sym last) (
              all_set (IsIn job rs g h.class) (replicate (size_of job h.class) none) hg.index (some (vreg (length rs₀))) (replicate_is rs g h.class (size_of job h.class)) (is_last job rs₀ r g refl),
              (vreg (length rs₀), set_memb (size_of job h.class) hg.index (vreg (length rs₀)) k),
            ))
        | false ↦ λ e.
            let n : f.0 ≢ g.0 = eqb-false f.0 g.0 e in
            let l' : f.0 < g.0 = omega arith in
            let s : get_or gs f.0 [] ≡ get_or st.groups f.0 [] = get_or-append st.groups (X ∷ []) [] f.0 l' in
            let q = grouped₀ f l' in
            subst (λ (y : List (Option VirtReg)). All (IsIn job rs f (κ f)) y × NonEmpty y) (sym s)
            (all_map (IsIn job rs₀ f (κ f)) (IsIn job rs f (κ f)) (is_snoc job rs₀ r f (κ f)) (members_at st f) q.0, q.1)
      ] in
      make (lead_state job set' h hg new st (or_else o [])) (over κ g h.class) (served_snoc job rs₀ r served₀ sv) (λ f l. by f l (eqb f.0 g.0) refl)
      (rw len (or_empty (Entered g) o a))

  -- the entries that are there, seen with the new group
  old_entries : AllMapped (Entered (vrgroup (length st.groups))) st.mapping
  old_entries = all_map _ _ go st.mapping ok.mapped
    where
      go : (m : Mapped) → Asks job (length st.groups) κ m.inst m.slot m.group → Entered (vrgroup (length st.groups)) m.inst m.slot m.group
      go m a = (omega arith, subst (λ (x : RegClass). In job x (asked job m.inst m.slot)) (sym (over_other κ (vrgroup (length st.groups)) h.class m.group (λ e. omega arith))) a.1)

-- ---- lists of facts

abbrev pub UseFits : Job → Use → Type 0
UseFits job u = KindFits job u.pos u.kind

abbrev pub SegFits : Job → Segment → Type 0
SegFits job s = All (UseFits job) s.uses

-- ---- the whole builder

module _ (job : Job) (ms : Masks job) (tr : Transitive job) (sz : Sizes job) (room : Room) where
  abbrev SoundIn : State → Type 0
  SoundIn st = (κ : VirtRegGroup → RegClass) × Sound job st κ

  place_sound : (set' : ValueSet) (h : Held) (new : List Piece) (st st' : State) (κ : VirtRegGroup → RegClass) → Sound job st κ → HeldOk job st κ h
      → All (UseFits job) (uses_of (segs_of new)) → All (Serves job h.class) (uses_of (segs_of new)) → place job room set' h new st ≡ done st' → SoundIn st'
  unfolding place place_by place_group alone join lead merge
  place_sound set' h new st st' κ ok ho fit sv e = go h.group ho e
    where
      sp : ServedIn job h.class new
      sp = by_pieces (Serves job h.class) new sv

      grp : (hg : HeldGroup) (m : Option VirtRegGroup) (t : Option VirtReg) → hg.index < size_of job h.class → MappedOk job st κ h.class t m → place_group job room set' h new st hg m t ≡ done st' → SoundIn st'
      grp hg none t k a f =
          let o = map_uses (vrgroup (length st.groups)) (uses_of (segs_of new)) st.mapping in
          let q : lead_state job set' h hg new st (or_else o []) ≡ st' = gate_done (is_none o) (has_room room st 1 1 new) MappedTwice (lead_state job set' h hg new st (or_else o [])) st' f in
          let g = vrgroup (length st.groups) in (
            over κ g h.class,
            subst (λ (x : State). Sound job x (over κ g h.class)) q
                (lead_sound job ms tr st κ ok set' h new sp hg o k (map_all (Entered job ms tr st κ ok set' h new sp g) g (uses_of (segs_of new)) st.mapping (old_entries job ms tr st κ ok set' h new sp) (new_entries job ms tr st κ ok set' h new sp g (uses_of (segs_of new)) fit sv))),
          )
      grp hg (some g) none k a f =
          let q : join_state job set' h hg g new st ≡ st' = room_done (has_room room st 1 0 new) (join_state job set' h hg g new st) st' f in
          (over κ g h.class, subst (λ (x : State). Sound job x (over κ g h.class)) q (join_sound job ms tr st κ ok set' h new sp hg g a.0 a.1))
      grp hg (some g) (some v) k a f =
          let q : merge_state job h hg g v new st ≡ st' = gate_done (overlaps (first_from new) (last_to new) (register_at st v).pieces) (has_room room st 0 0 new) Overlap (merge_state job h hg g v new st) st' f in
          (over κ g h.class, subst (λ (x : State). Sound job x (over κ g h.class)) q (merge_sound job ms tr st κ ok set' h new sp hg g v a.0 a.1 a.2))

      go : (gr : Option HeldGroup) → GroupOk job st κ h.class h.target gr → place_by job room set' h new st gr ≡ done st' → SoundIn st'
      go none a f =
          let q : alone_state job set' h new st ≡ st' = room_done (has_room room st 1 0 new) (alone_state job set' h new st) st' f in
          (κ, subst (λ (x : State). Sound job x κ) q (alone_sound job ms tr st κ ok set' h new sp))
      go (some hg) a f = grp hg hg.mapped h.target a.0 a.2 f

  place_keeps : (u : ValueSet) (top : RegClass) (h : Held) (new : List Piece) (st st' : State) → SoundIn st → All (PieceOk (λ u v. Unit {0}) (λ u w. UseFits job w) u) new
      → scan job st (uses_of (segs_of new)) (fresh top) ≡ through h → place job room u h new st ≡ done st' → SoundIn st'
  unfolding fresh
  place_keeps u top h new st st' s a e f =
      let fit = piece_uses (λ u v. Unit {0}) (λ u w. UseFits job w) u new a in
      let r = scan_sound job ms tr sz st s.0 s.1 (uses_of (segs_of new)) (fresh top) h refl fit e in
      place_sound u h new st st' s.0 s.1 r.2 fit r.1 f

  fit_run : (ss : List Segment) → All (SegFits job) ss → RunOk (λ u v. Unit {0}) (λ u w. UseFits job w) job ss
  fit_run [] a = tt
  fit_run (s ∷ ss) a = all_map (SegFits job) (SegOk (λ u v. Unit {0}) (λ u w. UseFits job w) (set_of job s.value)) (λ t f. (tt, f)) (s ∷ ss) a

  empty_sound : SoundIn empty
  empty_sound = (λ _. cls 0, record { served = λ v l. absurd (omega arith); grouped = λ g l. absurd (omega arith); mapped = tt })

  -- the class of each register of an accepted job's result is admitted by every class use in its pieces
  pub admission : (res : Result) → All (SegFits job) job.segments → build job room ≡ done res → (v : VirtReg) → v.0 < length res.registers
      → ServedIn job (nth res.registers v).class (nth res.registers v).pieces
  unfolding build register_at
  admission res fit e =
      let b = bind_done (build_sets job room (runs (same_set job) job.segments) empty) _ res e in
      let s = sets_kept (λ u v. Unit {0}) (λ u w. UseFits job w) (λ u i. tt) (λ u i q. tt) job room SoundIn place_keeps (runs (same_set job) job.segments) empty b.0 empty_sound
      (all_map (All (SegFits job)) (RunOk (λ u v. Unit {0}) (λ u w. UseFits job w) job) fit_run (runs (same_set job) job.segments) (runs_all (SegFits job) (same_set job) job.segments fit)) b.1 in
      let r : b.0.registers ≡ res.registers = cc in
      subst (λ (rs : List Register). (v : VirtReg) → v.0 < length rs → ServedIn job (nth rs v).class (nth rs v).pieces) r s.1.served
