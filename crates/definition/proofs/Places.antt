-- Placing a register adds its pieces to those that are there, whatever is counted of a piece; groups and what is held name registers.
-- Before that, facts on lists (`All`) and on one answer after another. Assumes nothing.
use mathlib.Core.Path.{◌≡◌, refl, ap, ◌∙◌, subst}
use Prim.Native.Nat.{ℕ, zero, suc, ◌+◌, ◌≤◌, ◌<◌}
use native.Mathlib.Omega.{arith}
use mathlib.Core.Bool.{Bool, true, false}
use mathlib.Core.Option.{Option, none, some, bind, some-injective}
use mathlib.Core.List.{List, [], ◌∷◌, ◌++◌, reverse, reverse_aux}
use lib.ListN.{length, get_or, set, replicate, length-append}
use lib.Dec.{leb}
use lib.Ieee.{Float}
use Rattle.definition.specs.Types.{BlockparamIn, BlockparamOut, ClassDef, ClassUse, ConstraintConflict, FixedDef, FixedUse, GroupClassDef, GroupClassUse, Held, HeldGroup, Inst, Job, LiveRangePoint, Mapped, MappedTwice, Out, Overlap, Piece, RegClass, Register, Room, Segment, State, Stop, TiedUse, Turned, Use, UseKind, ValueSet, VirtReg, VirtRegGroup, done, refused, vreg, vrgroup}
use Rattle.definition.specs.RegInfo.{class_at, common_subclass}
use Rattle.definition.specs.Weights.{weight_of}
use Rattle.definition.specs.Admit.{admit, admit_class, admit_group, admit_kind, at_place, group_fits, guard, in_group, mapped_at, members_at, narrowed, no_register, register_at, scan, sets_at, through}
use Rattle.definition.specs.Place.{◌>>=◌, alone, alone_state, first_from, gate, group_weight, has_room, if_room, inserted, is_none, join, join_state, last_to, lead, lead_state, made, map_uses, merge, merge_state, or_else, overlaps, place, place_by, place_group, segs_of, spread, total, update, uses_of, with_pieces, with_weight}
use Rattle.definition.specs.Build.{as_own, last_first, last_first', try}
use Rattle.definition.proofs.Scans.{scan_keeps}

-- ---- one answer after another

-- a run of two that is done: so was the first
pub bind_done : {A B : Type 0} (o : Out A) (k : A → Out B) (b : B) → (o >>= k) ≡ done b → (a : A) × (o ≡ done a) × (k a ≡ done b)
bind_done (done a) k b e = (a, refl, e)
bind_done (refused r) k b e = let z : ◌≡◌ {A = ℕ} 0 1 = cc in absurd (omega arith)

pub bind_cong : {A B : Type 0} (o : Out A) (f g : A → Out B) → ((a : A) → f a ≡ g a) → (o >>= f) ≡ (o >>= g)
bind_cong (done a) f g e = e a
bind_cong (refused r) f g e = refl

-- ---- sums over lists

pub total_append : {A : Type 0} (f : A → ℕ) (xs ys : List A) → total f (xs ++ ys) ≡ total f xs + total f ys
unfolding total
total_append f [] ys = omega arith
total_append f (x ∷ xs) ys = omega (arith, total_append f xs ys)

pub room_done : (b : Bool) (x y : State) → if_room b x ≡ done y → x ≡ y
unfolding if_room
room_done true x y e = cc
room_done false x y e = cc

pub gate_done : (a b : Bool) (s : Stop) (x y : State) → gate a s b x ≡ done y → x ≡ y
unfolding gate
gate_done true b s x y e = cc
gate_done false b s x y e = room_done b x y e

pub update_length : (f : Register → Register) (n : ℕ) (rs : List Register) → length (update f n rs) ≡ length rs
unfolding update
update_length f n [] = refl
update_length f zero (r ∷ rs) = refl
update_length f (suc n) (r ∷ rs) = ap suc (update_length f n rs)

module _ (μ : Piece → ℕ) where
  -- what is counted of all pieces of all registers
  unfoldable pub counted : List Register → ℕ
  unfolding total
  counted rs = total (λ r. total μ r.pieces) rs

  counted_append : (rs ts : List Register) → counted (rs ++ ts) ≡ counted rs + counted ts
  unfolding counted
  counted_append rs ts = total_append (λ r. total μ r.pieces) rs ts

  counted_one : (r : Register) → counted (r ∷ []) ≡ total μ r.pieces
  unfolding counted
  counted_one r = omega arith

  update_weight : (c : RegClass) (w : Float) (n : ℕ) (rs : List Register) → counted (update (with_weight c w) n rs) ≡ counted rs
  unfolding counted update
  update_weight c w n [] = refl
  update_weight c w zero (r ∷ rs) = refl
  update_weight c w (suc n) (r ∷ rs) = ap (λ (x : ℕ). total μ r.pieces + x) (update_weight c w n rs)

  spread_keeps : (c : RegClass) (w : Float) (ms : List (Option VirtReg)) (rs : List Register) → counted (spread c w ms rs) ≡ counted rs
  unfolding spread
  spread_keeps c w [] rs = refl
  spread_keeps c w (none ∷ ms) rs = spread_keeps c w ms rs
  spread_keeps c w (some n ∷ ms) rs = spread_keeps c w ms (update (with_weight c w) n.0 rs) ∙ update_weight c w n.0 rs

  update_pieces : (ps : List Piece) (n : ℕ) (rs : List Register) → n < length rs
      → counted (update (with_pieces ps) n rs) + total μ (get_or rs n no_register).pieces ≡ counted rs + total μ ps
  unfolding counted update
  update_pieces ps n [] h = absurd (omega arith)
  update_pieces ps zero (r ∷ rs) h = omega arith
  update_pieces ps (suc n) (r ∷ rs) h = omega (arith, update_pieces ps n rs (omega arith))

  inserted_counts : (a : LiveRangePoint) (new old : List Piece) → total μ (inserted a new old) ≡ total μ new + total μ old
  unfolding inserted total
  inserted_counts a new [] = omega arith
  inserted_counts a new (p ∷ ps) = go (leb p.seg.to.0 a.0) refl (inserted_counts a new ps)
    where
      go : (b : Bool) → leb p.seg.to.0 a.0 ≡ b → total μ (inserted a new ps) ≡ total μ new + total μ ps
          → total μ (inserted a new (p ∷ ps)) ≡ total μ new + (μ p + total μ ps)
      go true e ih = rw (e, inserted) (omega arith)
      go false e ih = rw (e, inserted) (total_append μ new (p ∷ ps))

-- ---- members and targets are registers

abbrev pub Ok : ℕ → Option VirtReg → Type 0
Ok n none = Unit {0}
Ok n (some v) = v.0 < n

pub ok_more : (n m : ℕ) (o : Option VirtReg) → n ≤ m → Ok n o → Ok m o
ok_more n m none h k = tt
ok_more n m (some v) h k = omega arith

abbrev pub All : {A : Type 0} → (A → Type 0) → List A → Type 0
All P [] = Unit {0}
All P (x ∷ xs) = P x × All P xs

pub all_map : {A : Type 0} (P Q : A → Type 0) → ((a : A) → P a → Q a) → (xs : List A) → All P xs → All Q xs
all_map P Q f [] h = tt
all_map P Q f (x ∷ xs) h = (f x h.0, all_map P Q f xs h.1)

pub all_append : {A : Type 0} (P : A → Type 0) (xs ys : List A) → All P xs → All P ys → All P (xs ++ ys)
all_append P [] ys h k = k
all_append P (x ∷ xs) ys h k = (h.0, all_append P xs ys h.1 k)

pub all_get_d : {A : Type 0} (P : A → Type 0) (xs : List A) (n : ℕ) (d : A) → All P xs → P d → P (get_or xs n d)
all_get_d P [] n d h k = k
all_get_d P (x ∷ xs) zero d h k = h.0
all_get_d P (x ∷ xs) (suc n) d h k = all_get_d P xs n d h.1 k

pub all_set : {A : Type 0} (P : A → Type 0) (xs : List A) (n : ℕ) (a : A) → All P xs → P a → All P (set xs n a)
all_set P [] n a h k = tt
all_set P (x ∷ xs) zero a h k = (k, h.1)
all_set P (x ∷ xs) (suc n) a h k = (h.0, all_set P xs n a h.1 k)

pub all_split : {A : Type 0} (P : A → Type 0) (xs ys : List A) → All P (xs ++ ys) → All P xs × All P ys
all_split P [] ys h = (tt, h)
all_split P (x ∷ xs) ys h = let r = all_split P xs ys h.1 in ((h.0, r.0), r.1)

all_rev : {A : Type 0} (P : A → Type 0) (xs ys : List A) → All P xs → All P ys → All P (reverse_aux xs ys)
all_rev P [] ys h k = k
all_rev P (x ∷ xs) ys h k = all_rev P xs (x ∷ ys) h.1 (h.0, k)

pub all_first : (P : Turned → Type 0) (us : List Turned) → All P us → All P (last_first us)
all_first P us h = go (reverse us) (all_rev P us [] h tt)
  where
    go : (rs : List Turned) → All P rs → All P (last_first' rs)
    go [] k = tt
    go (t ∷ ts) k = (k.0, all_rev P ts [] k.1 tt)

pub own_uses_lem : (ss : List Segment) → uses_of (segs_of (as_own ss)) ≡ uses_of ss
unfolding uses_of
own_uses_lem [] = refl
own_uses_lem (s ∷ ss) = ap (λ (l : List Use). s.uses ++ l) (own_uses_lem ss)

abbrev pub Members : ℕ → List (Option VirtReg) → Type 0
Members n ms = All (Ok n) ms

abbrev pub Groups : State → Type 0
Groups st = All (Members (length st.registers)) st.groups

pub members_ok : (st : State) (g : VirtRegGroup) → Groups st → Members (length st.registers) (members_at st g)
unfolding members_at
members_ok st g h = all_get_d (Members (length st.registers)) st.groups g.0 [] h tt

pub groups_more : (n m : ℕ) (gs : List (List (Option VirtReg))) → n ≤ m → All (Members n) gs → All (Members m) gs
groups_more n m gs h k = all_map (Members n) (Members m) (λ ms. all_map (Ok n) (Ok m) (λ o. ok_more n m o h) ms) gs k

-- ---- what is held names a register

pub bind_some : {A B : Type 0} (o : Option A) (k : A → Option B) (b : B) → bind o k ≡ some b → (a : A) × (o ≡ some a) × (k a ≡ some b)
unfolding bind
bind_some none k b e = let z : ◌≡◌ {A = ℕ} 0 1 = cc in absurd (omega arith)
bind_some (some a) k b e = (a, refl, e)

-- a fact on what is held that the two ways to admit a class use keep: every admission keeps it, and so does a scan
module _ (job : Job) (st : State) (P : Held → Type 0)
    (by_class : (h : Held) (c : RegClass) (g : Held) → P h → admit_class job h c ≡ some g → P g)
    (by_group : (h : Held) (p : Inst) (s : ℕ) (c : RegClass) (i : ℕ) (g : Held) → P h
    → admit_group job st h p s c i ≡ some g → P g) where
  same_held : (h g : Held) → P h → some h ≡ some g → P g
  same_held h g k e = subst P (some-injective h g e) k

  admit_kind_lem : (h : Held) (p : Inst) (k : UseKind) (g : Held) → P h → admit_kind job st h p k ≡ some g → P g
  unfolding admit_kind
  admit_kind_lem h p (FixedDef r) g o e = same_held h g o e
  admit_kind_lem h p (FixedUse r) g o e = same_held h g o e
  admit_kind_lem h p (TiedUse u d c i) g o e = same_held h g o e
  admit_kind_lem h p ConstraintConflict g o e = same_held h g o e
  admit_kind_lem h p (ClassUse s c) g o e = by_class h c g o e
  admit_kind_lem h p (ClassDef s c) g o e = by_class h c g o e
  admit_kind_lem h p (GroupClassUse s c i) g o e = by_group h p s c i g o e
  admit_kind_lem h p (GroupClassDef s c i) g o e = by_group h p s c i g o e
  admit_kind_lem h p (BlockparamIn q) g o e = same_held h g o e
  admit_kind_lem h p BlockparamOut g o e = same_held h g o e

  pub admit_held : (h : Held) (u : Use) (g : Held) → P h → admit job st h u ≡ some g → P g
  unfolding admit
  admit_held h u g o e = admit_kind_lem h u.pos u.kind g o e

  pub scan_held : (us : List Use) (h g : Held) → P h → scan job st us h ≡ through g → P g
  scan_held us h g o e = scan_keeps job st P (λ l k u p a. admit_held l u k p a) us h g o e

-- a fact on the register to merge into: it is kept if what each place of each group has in it has the fact
module _ (job : Job) (st : State) (P : Option VirtReg → Type 0)
    (at_places : (g : VirtRegGroup) (i : ℕ) → P (get_or (members_at st g) i none)) where
  abbrev Second : RegClass × Option VirtReg → Type 0
  Second n = P n.1

  abbrev Target : Held → Type 0
  Target h = P h.target

  place_target : (h : Held) (k : RegClass) (ms : List (Option VirtReg)) (o : Option VirtReg)
      (n : RegClass × Option VirtReg) → Target h → P o → at_place job st h k ms o ≡ some n → Second n
  unfolding at_place
  place_target h k ms none n a b e =
      let r = bind_some (narrowed job st ms k) _ n e in
      subst Second (some-injective _ _ r.2) a
  place_target h k ms (some v) n a b e =
      let r = bind_some (common_subclass job h.class (register_at st v).class) _ n e in
      subst Second (some-injective _ _ r.2) b

  group_target : (h : Held) (k : RegClass) (i : ℕ) (m : Option VirtRegGroup) (n : RegClass × Option VirtReg) → Target h
      → in_group job st h k i m ≡ some n → Second n
  unfolding in_group
  group_target h k i none n a e = subst Second (some-injective _ _ e) a
  group_target h k i (some g) n a e =
      place_target h k (members_at st g) (get_or (members_at st g) i none) n a (at_places g i) e

  by_class : (h : Held) (c : RegClass) (g : Held) → Target h → admit_class job h c ≡ some g → Target g
  unfolding admit_class
  by_class h c g k e =
      let r = bind_some (common_subclass job h.class c) _ g e in
      subst Target (some-injective _ g r.2) k

  by_group : (h : Held) (p : Inst) (s : ℕ) (c : RegClass) (i : ℕ) (g : Held) → Target h
      → admit_group job st h p s c i ≡ some g → Target g
  unfolding admit_group
  by_group h p s c i g k e =
      let r = bind_some (common_subclass job h.class c) _ g e in
      let t = bind_some (guard (group_fits h.group i (mapped_at st.mapping p s) (sets_at job p s))) _ g r.2 in
      let m = mapped_at st.mapping p s in
      let n = bind_some (in_group job st h r.0 i m) _ g t.2 in
      subst Target (some-injective _ g n.2) (group_target h r.0 i m n.0 k n.1)

  pub admit_merged : (h : Held) (u : Use) (g : Held) → Target h → admit job st h u ≡ some g → Target g
  admit_merged = admit_held job st Target by_class by_group

  pub scan_merged : (us : List Use) (h g : Held) → Target h → scan job st us h ≡ through g → Target g
  scan_merged = scan_held job st Target by_class by_group

-- that it names a register
module _ (job : Job) (st : State) (gs : Groups st) where
  abbrev TargetOk : Held → Type 0
  TargetOk h = Ok (length st.registers) h.target

  places_ok : (g : VirtRegGroup) (i : ℕ) → Ok (length st.registers) (get_or (members_at st g) i none)
  places_ok g i = all_get_d (Ok (length st.registers)) (members_at st g) i none (members_ok st g gs) tt

  pub admit_target : (h : Held) (u : Use) (g : Held) → TargetOk h → admit job st h u ≡ some g → TargetOk g
  admit_target = admit_merged job st (Ok (length st.registers)) places_ok

  pub scan_target : (us : List Use) (h g : Held) → TargetOk h → scan job st us h ≡ through g → TargetOk g
  scan_target = scan_merged job st (Ok (length st.registers)) places_ok

-- ---- and after a round over turned uses

pub try_target : (job : Job) (f : ℕ) (st : State) (h : Held) (taken us left : List Turned) → Groups st → Ok (length st.registers) h.target
    → Ok (length st.registers) (try f job st h taken us left).held.target
unfolding try
try_target job zero st h taken us left gs o = o
try_target job (suc f) st h taken [] left gs o = o
try_target job (suc f) st h taken (t ∷ us) left gs o =
    go (admit job st h t.use') refl (λ g o'. try_target job f st g (taken ++ (t ∷ [])) us left gs o') (try_target job f st h taken (last_first us) (t ∷ left) gs o)
  where
    go : (r : Option Held) → admit job st h t.use' ≡ r
        → ((g : Held) → Ok (length st.registers) g.target → Ok (length st.registers) (try f job st g (taken ++ (t ∷ [])) us left).held.target)
        → Ok (length st.registers) (try f job st h taken (last_first us) (t ∷ left)).held.target
        → Ok (length st.registers) (try (suc f) job st h taken (t ∷ us) left).held.target
    go none a yes' no' = rw (a, try) no'
    go (some g) a yes' no' = rw (a, try) (yes' g (admit_target job st gs h t.use' g o a))

-- ---- placing

-- a placing that is done leaves one of four states
module _ (job : Job) (room : Room) (set' : ValueSet) (h : Held) (new : List Piece) (st : State)
    (P : State → Type 0) where
  abbrev the_mapping : Option (List Mapped)
  the_mapping = map_uses (vrgroup (length st.groups)) (uses_of (segs_of new)) st.mapping

  abbrev Leads : Type 0
  Leads = (hg : HeldGroup) → P (lead_state job set' h hg new st (or_else the_mapping []))

  abbrev Joins : Type 0
  Joins = (hg : HeldGroup) (g : VirtRegGroup) → P (join_state job set' h hg g new st)

  abbrev Merges : Option VirtReg → Type 0
  Merges t = (hg : HeldGroup) (g : VirtRegGroup) (v : VirtReg) → t ≡ some v → P (merge_state job h hg g v new st)

  group_cases : (hg : HeldGroup) (m : Option VirtRegGroup) (t : Option VirtReg) → Leads → Joins → Merges t
      → (st' : State) → place_group job room set' h new st hg m t ≡ done st' → P st'
  unfolding place_group lead join merge
  group_cases hg none t l j m st' e =
      let s = lead_state job set' h hg new st (or_else the_mapping []) in
      subst P (gate_done (is_none the_mapping) (has_room room st 1 1 new) MappedTwice s st' e) (l hg)
  group_cases hg (some g) none l j m st' e =
      subst P (room_done (has_room room st 1 0 new) (join_state job set' h hg g new st) st' e) (j hg g)
  group_cases hg (some g) (some v) l j m st' e =
      let o = overlaps (first_from new) (last_to new) (register_at st v).pieces in
      subst P (gate_done o (has_room room st 0 0 new) Overlap (merge_state job h hg g v new st) st' e) (m hg g v refl)

  pub place_cases : P (alone_state job set' h new st) → Leads → Joins → Merges h.target
      → (st' : State) → place job room set' h new st ≡ done st' → P st'
  unfolding place place_by alone
  place_cases a l j m st' e = go h.group e
    where
      go : (o : Option HeldGroup) → place_by job room set' h new st o ≡ done st' → P st'
      go none f = subst P (room_done (has_room room st 1 0 new) (alone_state job set' h new st) st' f) a
      go (some hg) f = group_cases hg hg.mapped h.target l j m st' f

abbrev pub Placed : (Piece → ℕ) → List Piece → State → State → Type 0
Placed μ new st st' = (counted μ st'.registers ≡ counted μ st.registers + total μ new) × Groups st'

module _ (μ : Piece → ℕ) (job : Job) (room : Room) (set' : ValueSet) (h : Held) (new : List Piece) (st : State) (gs : Groups st) where
  longer : (rs : List Register) (r : Register) → length (rs ++ (r ∷ [])) ≡ suc (length rs)
  longer rs r = omega (arith, length-append rs (r ∷ []))

  one_more_lem : (rs : List Register) (r : Register) → counted μ (rs ++ (r ∷ [])) ≡ counted μ rs + total μ r.pieces
  one_more_lem rs r = counted_append μ rs (r ∷ []) ∙ ap (λ (x : ℕ). counted μ rs + x) (counted_one μ r)

  -- groups stay in order where registers are only added
  kept : (rs : List Register) (hs : List (List (Option VirtReg))) → length st.registers ≤ length rs → All (Members (length st.registers)) hs → All (Members (length rs)) hs
  kept rs hs l k = groups_more (length st.registers) (length rs) hs l k

  alone_placed : Placed μ new st (alone_state job set' h new st)
  unfolding alone_state
  alone_placed = let r = made set' h (weight_of job h.class (segs_of new)) none 0 new in
      (one_more_lem st.registers r, kept (st.registers ++ (r ∷ [])) st.groups (omega (arith, longer st.registers r)) gs)

  empty_ok : (n k : ℕ) → Members n (replicate k none)
  empty_ok n zero = tt
  empty_ok n (suc k) = (tt, empty_ok n k)

  lead_placed : (hg : HeldGroup) (ms : List Mapped) → Placed μ new st (lead_state job set' h hg new st ms)
  unfolding lead_state
  lead_placed hg ms =
      let r = made set' h (weight_of job h.class (segs_of new)) (some (vrgroup (length st.groups))) hg.index new in
      let rs = st.registers ++ (r ∷ []) in
      let l : length rs ≡ suc (length st.registers) = longer st.registers r in
      let g = set (replicate (class_at job h.class).size none) hg.index (some (vreg (length st.registers))) in (
        one_more_lem st.registers r,
        all_append (Members (length rs)) st.groups (g ∷ []) (kept rs st.groups (omega arith) gs)
            (all_set (Ok (length rs)) (replicate (class_at job h.class).size none) hg.index (some (vreg (length st.registers))) (empty_ok (length rs) (class_at job h.class).size) (omega arith), tt),
      )

  spread_length : (c : RegClass) (w : Float) (ms : List (Option VirtReg)) (rs : List Register) → length (spread c w ms rs) ≡ length rs
  unfolding spread update
  spread_length c w [] rs = refl
  spread_length c w (none ∷ ms) rs = spread_length c w ms rs
  spread_length c w (some n ∷ ms) rs = spread_length c w ms (update (with_weight c w) n.0 rs) ∙ update_length (with_weight c w) n.0 rs

  join_placed : (hg : HeldGroup) (g : VirtRegGroup) → Placed μ new st (join_state job set' h hg g new st)
  unfolding join_state
  join_placed hg g =
      let w = group_weight job h hg (members_at st g) new st in
      let r = made set' h w (some g) hg.index new in
      let old = spread h.class w (members_at st g) st.registers in
      let rs = old ++ (r ∷ []) in
      let l : length rs ≡ suc (length st.registers) = longer old r ∙ ap suc (spread_length h.class w (members_at st g) st.registers) in (
        one_more_lem old r ∙ ap (λ (x : ℕ). x + total μ new) (spread_keeps μ h.class w (members_at st g) st.registers),
        all_set (Members (length rs)) st.groups g.0 (set (members_at st g) hg.index (some (vreg (length st.registers)))) (kept rs st.groups (omega arith) gs)
            (all_set (Ok (length rs)) (members_at st g) hg.index (some (vreg (length st.registers)))
            (all_map (Ok (length st.registers)) (Ok (length rs)) (λ o. ok_more (length st.registers) (length rs) o (omega arith)) (members_at st g) (members_ok st g gs)) (omega arith)),
      )

  merge_placed : (hg : HeldGroup) (g : VirtRegGroup) (v : VirtReg) → v.0 < length st.registers → Placed μ new st (merge_state job h hg g v new st)
  unfolding merge_state register_at
  merge_placed hg g v o =
      let old = (register_at st v).pieces in
      let ps = inserted (first_from new) new old in
      let w = group_weight job h hg (members_at st g) ps st in
      let rs = update (with_pieces ps) v.0 st.registers in
      let a : counted μ (spread h.class w (members_at st g) rs) ≡ counted μ rs = spread_keeps μ h.class w (members_at st g) rs in
      let b : counted μ rs + total μ old ≡ counted μ st.registers + total μ ps = update_pieces μ ps v.0 st.registers o in
      let c : total μ ps ≡ total μ new + total μ old = inserted_counts μ (first_from new) new old in
      let l : length (spread h.class w (members_at st g) rs) ≡ length st.registers =
      spread_length h.class w (members_at st g) rs ∙ update_length (with_pieces ps) v.0 st.registers in
      (omega arith, kept (spread h.class w (members_at st g) rs) st.groups (omega arith) gs)

  pub placed : (st' : State) → Ok (length st.registers) h.target → place job room set' h new st ≡ done st' → Placed μ new st st'
  placed st' o e =
      place_cases job room set' h new st (Placed μ new st) alone_placed (λ hg. lead_placed hg _) join_placed
      (λ hg g v q. merge_placed hg g v (subst (Ok (length st.registers)) q o)) st' e
