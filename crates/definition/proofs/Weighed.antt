-- A register without group keeps the weight of its own pieces, whatever is placed later: joining and merging write the
-- weights of group members alone, and a member of a group has that group in its row. `placed_both` says it of one
-- placing, whoever calls for it. Assumes nothing.
use mathlib.Core.Path.{◌≡◌, refl, sym, ap, ◌∙◌, subst}
use Prim.Native.Nat.{ℕ, zero, suc, ◌*◌, ◌≤◌}
use native.Mathlib.Omega.{arith}
use mathlib.Core.Bool.{false}
use mathlib.Core.Option.{Option, none, some}
use mathlib.Core.List.{List, [], ◌∷◌, ◌++◌, append-nil}
use lib.ListN.{length, get_or, replicate}
use lib.Ieee.{Float}
use Rattle.definition.specs.Types.{Held, HeldGroup, Hint, Inst, Job, Mapped, Piece, RegClass, Register, Room}
use Rattle.definition.specs.Types.{Segment, State, Turned, Value, ValueSet, VirtReg, VirtRegGroup, done, vreg}
use Rattle.definition.specs.Types.{vrgroup}
use Rattle.definition.specs.RegInfo.{class_at, set_of}
use Rattle.definition.specs.LiveRange.{live_insts, touched}
use Rattle.definition.specs.Weights.{weight_of}
use Rattle.definition.specs.Cuts.{left_of, right_cut, right_of}
use Rattle.definition.specs.Admit.{fresh, members_at, no_register, register_at}
use Rattle.definition.specs.Place.{alone_state, first_from, group_weight, inserted, is_none, join_state, lead_state}
use Rattle.definition.specs.Place.{made, merge_state, place, segs_of, spread, update, uses_of, with_pieces}
use Rattle.definition.specs.Place.{with_weight}
use Rattle.definition.specs.Build.{Result, as_own, build, build_set, conflict_piece, runs, same_set}
use Rattle.definition.specs.Entry.{entry}
use Rattle.definition.specs.Promised.{Follows, OwnWeight}
use Rattle.definition.proofs.Places.{All, all_map, all_append, all_get_d, all_set, place_cases, scan_merged}
use Rattle.definition.proofs.Fits.{SegsFit, right_fit, turn_fit}
use Rattle.definition.proofs.Tables.{nth, nth_last, spread_len}
use Rattle.definition.proofs.Entries.{accepted_ends, accepted_fit, accepted_insts}
use Rattle.definition.proofs.Builder.{Part, Placing, Keeps, all, before, built_kept, part_all, set_kept, turn_all}
use Rattle.definition.proofs.Rises.{part_follows}
use Rattle.definition.proofs.Runs.{runs_all}
use Rattle.definition.proofs.Touched.{live_insts_most}

-- ---- a place of a group is empty, or names a register that has a group

abbrev pub Has : List Register → Option VirtReg → Type 0
Has rs none = Unit {0}
Has rs (some v) = is_none (nth rs v).group ≡ false

abbrev pub Named : State → Type 0
Named st = All (All (Has st.registers)) st.groups

clash : {A : Type 0} (o : Option VirtRegGroup) → o ≡ none → is_none o ≡ false → A
clash none e f = absurd (let z : ◌≡◌ {A = ℕ} 0 1 = cc in omega arith)
clash (some g) e f = absurd (let z : ◌≡◌ {A = ℕ} 0 1 = cc in omega arith)

-- registers that have a group keep one
abbrev Alike : List Register → List Register → Type 0
Alike rs ts = (o : Option VirtReg) → Has rs o → Has ts o

at_append : (rs : List Register) (r : Register) (n : ℕ) → is_none (get_or rs n no_register).group ≡ false
    → is_none (get_or (rs ++ (r ∷ [])) n no_register).group ≡ false
at_append [] r n e = absurd (let z : ◌≡◌ {A = ℕ} 0 1 = cc in omega arith)
at_append (x ∷ rs) r zero e = e
at_append (x ∷ rs) r (suc n) e = at_append rs r n e

alike_append : (rs : List Register) (r : Register) → Alike rs (rs ++ (r ∷ []))
alike_append rs r none h = tt
alike_append rs r (some v) h = at_append rs r v.0 h

-- a change of a register that leaves its group
abbrev KeepsGroup : (Register → Register) → Type 0
KeepsGroup f = (r : Register) → (f r).group ≡ r.group

at_update : (f : Register → Register) → KeepsGroup f → (m n : ℕ) (rs : List Register)
    → (get_or (update f m rs) n no_register).group ≡ (get_or rs n no_register).group
unfolding update
at_update f e m n [] = refl
at_update f e zero zero (r ∷ rs) = e r
at_update f e zero (suc n) (r ∷ rs) = refl
at_update f e (suc m) zero (r ∷ rs) = refl
at_update f e (suc m) (suc n) (r ∷ rs) = at_update f e m n rs

alike_update : (f : Register → Register) → KeepsGroup f → (m : ℕ) (rs : List Register) → Alike rs (update f m rs)
alike_update f e m rs none h = tt
alike_update f e m rs (some v) h =
    subst (λ (g : Option VirtRegGroup). is_none g ≡ false) (sym (at_update f e m v.0 rs)) h

alike_spread : (c : RegClass) (w : Float) (ms : List (Option VirtReg)) (rs : List Register)
    → Alike rs (spread c w ms rs)
unfolding spread
alike_spread c w [] rs o h = h
alike_spread c w (none ∷ ms) rs o h = alike_spread c w ms rs o h
alike_spread c w (some n ∷ ms) rs o h =
    alike_spread c w ms (update (with_weight c w) n.0 rs) o (alike_update (with_weight c w) (λ r. refl) n.0 rs o h)

named_more : (rs ts : List Register) (gs : List (List (Option VirtReg))) → Alike rs ts → All (All (Has rs)) gs
    → All (All (Has ts)) gs
named_more rs ts gs a h = all_map (All (Has rs)) (All (Has ts)) (λ ms. all_map (Has rs) (Has ts) a ms) gs h

-- ---- weights stay where a register that has a group is changed

module _ (job : Job) where
  weighed_update : (f : Register → Register) → KeepsGroup f → (n : ℕ) (rs : List Register)
      → is_none (get_or rs n no_register).group ≡ false → All (OwnWeight job) rs → All (OwnWeight job) (update f n rs)
  unfolding update
  weighed_update f e n [] h a = tt
  weighed_update f e zero (r ∷ rs) h a = ((λ k. clash r.group (sym (e r) ∙ k) h), a.1)
  weighed_update f e (suc n) (r ∷ rs) h a = (a.0, weighed_update f e n rs h a.1)

  weighed_spread : (c : RegClass) (w : Float) (ms : List (Option VirtReg)) (rs : List Register) → All (Has rs) ms
      → All (OwnWeight job) rs → All (OwnWeight job) (spread c w ms rs)
  unfolding spread
  weighed_spread c w [] rs h a = a
  weighed_spread c w (none ∷ ms) rs h a = weighed_spread c w ms rs h.1 a
  weighed_spread c w (some n ∷ ms) rs h a =
      let ts = update (with_weight c w) n.0 rs in
      let alike = alike_update (with_weight c w) (λ r. refl) n.0 rs in
      weighed_spread c w ms ts (all_map (Has rs) (Has ts) alike ms h.1)
      (weighed_update (with_weight c w) (λ r. refl) n.0 rs h.0 a)

-- ---- placing

-- each register without group has the weight of its own pieces, and each member of a group has a group
abbrev pub Both : Job → State → Type 0
Both job st = All (OwnWeight job) st.registers × Named st

members_named : (st : State) → Named st → (g : VirtRegGroup) → All (Has st.registers) (members_at st g)
unfolding members_at
members_named st ns g = all_get_d (All (Has st.registers)) st.groups g.0 [] ns tt

empty_places : (rs : List Register) (k : ℕ) → All (Has rs) (replicate k none)
empty_places rs zero = tt
empty_places rs (suc k) = (tt, empty_places rs k)

last_has : (rs : List Register) (n : ℕ) (r : Register) → length rs ≡ n → is_none r.group ≡ false
    → Has (rs ++ (r ∷ [])) (some (vreg n))
last_has rs n r e h =
    subst (λ (k : ℕ). Has (rs ++ (r ∷ [])) (some (vreg k))) e
    (subst (λ (q : Register). is_none q.group ≡ false) (sym (nth_last rs r)) h)

module _ (job : Job) (room : Room) (u : ValueSet) (h : Held) (new : List Piece) (l : live_insts (segs_of new) ≤ 4096)
    (st : State) (b : Both job st) where
  abbrev old : List Register
  old = st.registers

  abbrev next : Option VirtReg
  next = some (vreg (length old))

  alone_both : Both job (alone_state job u h new st)
  unfolding alone_state
  alone_both =
      let r = made u h (weight_of job h.class (segs_of new)) none 0 new in (
        all_append (OwnWeight job) old (r ∷ []) b.0 ((λ e. (refl, l)), tt),
        named_more old (old ++ (r ∷ [])) st.groups (alike_append old r) b.1,
      )

  some_none : {A : Type 0} (g : VirtRegGroup) → some g ≡ none → A
  some_none g e = clash (some g) e refl

  lead_both : (hg : HeldGroup) (ms : List Mapped) → Both job (lead_state job u h hg new st ms)
  unfolding lead_state
  lead_both hg ms =
      let g = vrgroup (length st.groups) in
      let r = made u h (weight_of job h.class (segs_of new)) (some g) hg.index new in
      let rs = old ++ (r ∷ []) in
      let n = (class_at job h.class).size in
      let has = last_has old (length old) r refl refl in (
        all_append (OwnWeight job) old (r ∷ []) b.0 ((λ e. some_none g e), tt),
        all_append (All (Has rs)) st.groups _ (named_more old rs st.groups (alike_append old r) b.1)
            (all_set (Has rs) (replicate n none) hg.index next (empty_places rs n) has, tt),
      )

  join_both : (hg : HeldGroup) (g : VirtRegGroup) → Both job (join_state job u h hg g new st)
  unfolding join_state
  join_both hg g =
      let ms = members_at st g in
      let named = members_named st b.1 g in
      let w = group_weight job h hg ms new st in
      let less = spread h.class w ms old in
      let r = made u h w (some g) hg.index new in
      let rs = less ++ (r ∷ []) in
      let alike : Alike old rs = λ o k. alike_append less r o (alike_spread h.class w ms old o k) in
      let has = last_has less (length old) r (spread_len h.class w ms old) refl in (
        all_append (OwnWeight job) less (r ∷ []) (weighed_spread job h.class w ms old named b.0)
            ((λ e. some_none g e), tt),
        all_set (All (Has rs)) st.groups g.0 _ (named_more old rs st.groups alike b.1)
            (all_set (Has rs) ms hg.index next (all_map (Has old) (Has rs) alike ms named) has),
      )

  merge_both : (hg : HeldGroup) (g : VirtRegGroup) (v : VirtReg) → Has old (some v)
      → Both job (merge_state job h hg g v new st)
  unfolding merge_state
  merge_both hg g v k =
      let ms = members_at st g in
      let ps = inserted (first_from new) new (register_at st v).pieces in
      let w = group_weight job h hg ms ps st in
      let ts = update (with_pieces ps) v.0 old in
      let alike = alike_update (with_pieces ps) (λ r. refl) v.0 old in (
        weighed_spread job h.class w ms ts (all_map (Has old) (Has ts) alike ms (members_named st b.1 g))
            (weighed_update job (with_pieces ps) (λ r. refl) v.0 old k b.0),
        named_more old (spread h.class w ms ts) st.groups
            (λ o q. alike_spread h.class w ms ts o (alike o q)) b.1,
      )

  -- WHAT EVERY PLACING KEEPS, whoever calls for it: the pieces touch no more instructions than a job may have, and the
  -- register to merge into, if there is one, has a group.
  -- Rules out: a merge into a register of no group, which would keep the weight of its old pieces; a place of a group
  -- that names a register whose row has none.
  pub placed_both : (st' : State) → Has old h.target → place job room u h new st ≡ done st' → Both job st'
  placed_both st' o e =
      place_cases job room u h new st (Both job) alone_both (λ hg. lead_both hg _) join_both
      (λ hg g v q. merge_both hg g v (subst (Has old) q o)) st' e

-- the register to merge into is read from a group
pub placing_both : (job : Job) (room : Room) (u : ValueSet) (new : List Piece) (st st' : State)
    → live_insts (segs_of new) ≤ 4096 → Placing job room u new st st' → Both job st → Both job st'
unfolding fresh
placing_both job room u new st st' l x b =
    let P = Has st.registers in
    let at_places : (g : VirtRegGroup) (i : ℕ) → P (get_or (members_at st g) i none) =
    λ g i. all_get_d P (members_at st g) i none (members_named st b.1 g) tt in
    let o = scan_merged job st P at_places (uses_of (segs_of new)) (fresh x.top) x.held tt x.admitted in
    placed_both job room u x.held new l st b st' o x.put

-- ---- the segments of a set that are left: they fit, and end within the instructions that a job may have

abbrev Ends : Segment → Type 0
Ends s = s.to.0 ≤ 4 * 4096

abbrev Left : List Segment → Type 0
Left ss = SegsFit 0 ss × All Ends ss

fit_later : (q : ℕ) (ss : List Segment) → SegsFit q ss → SegsFit 0 ss
fit_later q [] h = tt
fit_later q (s ∷ ss) h = (omega arith, h.1, h.2, h.3)

own_segs : (ss : List Segment) → segs_of (as_own ss) ≡ ss
own_segs [] = refl
own_segs (s ∷ ss) = ap (λ (l : List Segment). s ∷ l) (own_segs ss)

part_ends : {hs : List Hint} {ss l r : List Segment} → Part hs ss l r → All Ends ss → All Ends l × All Ends r
unfolding left_of right_of
part_ends {hs = hs} p a = part_all Ends hs (λ p s l k. (omega arith, k)) p a

part_left : {hs : List Hint} {ss l r : List Segment} → Part hs ss l r → Left ss → (live_insts l ≤ 4096) × Left r
part_left {hs = hs} {ss = ss} {l = l} p f =
    let e = part_ends p f.1 in
    let o = subst (Follows 0) (append-nil l) (part_follows hs p [] 0 f.0 (λ n k. tt)) in
    (live_insts_most 4096 l o e.0, (rest p f.0, e.1))
  where
    rest : {hs : List Hint} {ss l r : List Segment} → Part hs ss l r → SegsFit 0 ss → SegsFit 0 r
    rest (all ss) k = tt
    rest {hs = hs} (before p ss) k = fit_later (4 * p.0) (right_cut hs p ss) (right_fit hs p ss 0 k)

-- a conflict piece touches its instruction alone
one_inst : (v : Value) (p : Inst) (o : Option ℕ) (ts : List Turned)
    → live_insts (segs_of (conflict_piece v p o ts ∷ [])) ≤ 4096
unfolding conflict_piece live_insts touched
one_inst v p o ts = omega arith

-- ---- the run over all sets

module _ (job : Job) (room : Room) where
  abbrev With : State → List Segment → List Turned → Type 0
  With st ss ts = Both job st × Left ss

  steps_both : (u : ValueSet) → Keeps job room u With
  steps_both u = record {
    part = λ ss l r ts st st' p x i.
        let s = part_left p i.1 in
        let few = subst (λ (z : List Segment). live_insts z ≤ 4096) (sym (own_segs l)) s.0 in
        (placing_both job room u (as_own l) st st' few x i.0, s.1);
    turned = λ n ss ts st c i. (i.0, (turn_fit ss n 0 i.1.0, turn_all Ends (λ n s k. k) n ss i.1.1));
    conflict = λ v p o w ws us left more st st' x a y i.
        let c = conflict_piece v p o (w ∷ ws) in
        (placing_both job room u (c ∷ []) st st' (one_inst v p o (w ∷ ws)) y i.0, (tt, tt));
  }

  built_both : (res : Result) → All Left (runs (same_set job) job.segments) → build job room ≡ done res
      → All (OwnWeight job) res.registers
  built_both res a e =
      let k = built_kept job room (λ st rest. Both job st × All Left rest) set skip res ((tt, tt), a) e in
      subst (All (OwnWeight job)) k.2 k.1.0.0
    where
      set : (s : Segment) (ss : List Segment) (rest : List (List Segment)) (st st' : State)
          → Both job st × All Left ((s ∷ ss) ∷ rest) → build_set job room (s ∷ ss) st ≡ done st'
          → Both job st' × All Left rest
      set s ss rest st st' i f =
          let u = set_of job s.value in
          ((set_kept job room s ss With (steps_both u) st st' (i.0, i.1.0) f).0, i.1.1)

      skip : (rest : List (List Segment)) (st : State) → Both job st × All Left ([] ∷ rest)
          → Both job st × All Left rest
      skip rest st i = (i.0, i.1.1)

-- the sets of an accepted job
all_left : (rs : List (List Segment)) → All (SegsFit 0) rs → All (All Ends) rs → All Left rs
all_left [] f h = tt
all_left (r ∷ rs) f h = ((f.0, h.0), all_left rs f.1 h.1)

pub built_weighed : (job : Job) (room : Room) (res : Result) → entry job ≡ none → build job room ≡ done res
    → All (OwnWeight job) res.registers
built_weighed job room res k e =
    let few = accepted_insts job k in
    let sets = runs (same_set job) job.segments in
    let ends = all_map _ Ends (λ s h. omega (arith, few, h)) job.segments (accepted_ends job k) in
    built_both job room res
    (all_left sets (accepted_fit job k) (runs_all Ends (same_set job) job.segments ends)) e
