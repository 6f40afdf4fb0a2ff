-- What the changes mean for the state that the words hold. Assumes nothing.
use Rattle.std.specs.Prelude.{◌≡◌, Bool, true, false, take, drop, eqb, Float}
use Rattle.std.proofs.Math.Path.{refl, sym, ap, subst}
use Rattle.std.proofs.Common.{◌∙◌, zero-add, add-zero, eqb-true, length-take-le, get_or-set_same, get_or-set_other, ext_get_or}
use Rattle.std.proofs.Math.Option.{Option, none, some}
use mathlib.Core.List.{List, [], ◌∷◌, ◌++◌, map, append-nil}
use Prim.Native.Nat.{ℕ, zero, suc, ◌+◌, ◌-◌, ◌*◌, ◌≤◌, ◌<◌}
use native.Mathlib.Omega.{arith}
use Rattle.std.proofs.Math.ListN.{length, get_or, set, replicate, length-append, length-set, length-replicate}
use Rattle.std.proofs.lemmas.List.{set_split}
use Rattle.std.proofs.lemmas.Bool.{eqb-false}
use Rattle.std.specs.Float.Ieee.{binary32, to_bits}
use Rattle.std.proofs.Math.Seq.{split_at}
use Rattle.words.specs.Tab.{tab, length_tab, get_or_tab}
use Rattle.words.specs.Parts.{set_past}
use Rattle.words.specs.AnyRows.{rows_of, rows_append, row_put}
use Rattle.definition.specs.declared.RegClass.{RegClass}
use Rattle.definition.specs.declared.VirtReg.{VirtReg}
use Rattle.definition.specs.declared.VirtRegGroup.{VirtRegGroup}
use Rattle.definition.specs.Limits.{max_group}
use Rattle.definition.specs.Types.{Piece, Register, State}
use Rattle.definition.specs.Place.{pieces_in, uses_in, uses_of, segs_of, with_weight, update, spread, empty, add_group, set_members, with_weight_at, spread_to}
use Rattle.definition.specs.Admit.{members_at, no_register}
use Rattle.virt_regs.specs.declared.OutLayout.{OutLayout}
use Rattle.virt_regs.specs.declared.Counts.{Counts}
use Rattle.words.specs.Tables.{Tabled, put_word, put_zeros}
use Rattle.virt_regs.specs.Each.{Each, each_append, each_one, each_get, each_set, each_weaker}
use Rattle.virt_regs.specs.Encoding.{group_row, tables, contents, group_base, place_word, group_words, all_pieces, past_pieces, still, each_register, each_group, register_rows, piece_rows, use_rows, group_rows, counts_of, Weighs, Placed, Typed, Holds}
use Rattle.virt_regs.specs.Update.{update_split, length_update, each_update}
use Rattle.virt_regs.specs.Counting.{count_pieces, count_uses, length_registers, length_groups, placed_more}
use Rattle.virt_regs.specs.Held.{fit_registers, fit_groups}
use Rattle.virt_regs.specs.Reads.{size_held, member_held, size_le, member_lt}
use Rattle.vregs_write.specs.ChangeFlat.{weighted, at_place, at_places, member_in, spread_in, Spreadable}

-- ---- one register changed

pub all_weight : (c : RegClass) (w : Float) (v : ℕ) (rs : List Register) → all_pieces (update (with_weight c w) v rs) ≡ all_pieces rs
unfolding update all_pieces
all_weight c w v [] = refl
all_weight c w zero (r ∷ rs) = refl
all_weight c w (suc v) (r ∷ rs) = ap (λ (l : List Piece). r.pieces ++ l) (all_weight c w v rs)

rows_weight : (c : RegClass) (w : Float) (v : ℕ) (rs : List Register) → v < length rs
    → set (set (register_rows 0 rs) (v * 8 + 1) c.0) (v * 8 + 2) (to_bits binary32 w) ≡ register_rows 0 (update (with_weight c w) v rs)
rows_weight c w v rs h =
    let r : Register = get_or rs v no_register in
    let xs : List Register = take v rs in
    let ys : List Register = drop (suc v) rs in
    let l : length xs ≡ v = length-take-le v rs (omega arith) in
    ap (λ (t : List Register). set (set (register_rows 0 t) (v * 8 + 1) c.0) (v * 8 + 2) (to_bits binary32 w)) (split_at rs v no_register h)
    ∙ ap (λ (t : List ℕ). set t (v * 8 + 2) (to_bits binary32 w))
    (row_put each_register past_pieces 8 (λ σ a. refl) 0 xs r (with_weight c r.weight r) ys v 1 c.0 l (omega arith) refl refl)
    ∙ row_put each_register past_pieces 8 (λ σ a. refl) 0 xs (with_weight c r.weight r) (with_weight c w r) ys v 2 (to_bits binary32 w) l (omega arith) refl refl
    ∙ ap (λ (t : List Register). register_rows 0 t) (sym (update_split (with_weight c w) v rs no_register h))

-- class and weight of register v
pub holds_weighted : (ol : OutLayout) (O : List ℕ) (st : State) (v : VirtReg) (c : RegClass) (w : Float) → Holds ol O st → v.0 < length st.registers → Weighs w
    → Holds ol (weighted c.0 (to_bits binary32 w) v.0 O) (with_weight_at v c w st)
unfolding weighted
holds_weighted ol O st v c w h l ww =
    let rs : List Register = st.registers in
    let i : ℕ = v.0 * 8 + 1 in
    let j : ℕ = v.0 * 8 + 2 in
    let b : ℕ = to_bits binary32 w in
    let lr : length (register_rows 0 rs) ≡ length rs * 8 = length_registers 0 rs in
    let ls : length (set (register_rows 0 rs) i c.0) ≡ length (register_rows 0 rs) = length-set (register_rows 0 rs) i c.0 in
    let st' : State = with_weight_at v c w st in
    let all : all_pieces (update (with_weight c w) v.0 rs) ≡ all_pieces rs = all_weight c w v.0 rs in
    let ln : length (update (with_weight c w) v.0 rs) ≡ length rs = length_update (with_weight c w) v.0 rs in
    let class_set = put_word (tables ol) (contents st) O h.tabled 0 (omega arith) i i c.0 _ (omega arith) (omega arith) refl in
    let both_set = put_word (tables ol) _ _ class_set 0 (omega arith) j j b (register_rows 0 (update (with_weight c w) v.0 rs)) (omega arith) (omega arith) (rows_weight c w v.0 rs l) in
    let held : List Piece → List (List ℕ) = λ t. set (set (set (contents st) 0 (register_rows 0 st'.registers)) 1 (piece_rows 0 t)) 2 (use_rows (uses_of (segs_of t))) in
    record {
      tabled = subst (λ (t : List Piece). Tabled (tables ol) (held t) (set (set O i c.0) j b)) (sym all) both_set;
      typed = subst (λ (t : List Piece). Each Typed (uses_of (segs_of t))) (sym all) h.typed;
      weights = each_update _ (with_weight c w) (λ r p. ww) v.0 rs h.weights;
      members = each_weaker _ _ (λ ms p. placed_more ms (length rs) (length (update (with_weight c w) v.0 rs)) (omega arith) p) st.groups h.members;
    }

-- ---- every member of a group

at_place_some : (c b v : ℕ) (O : List ℕ) → at_place c b (v + 1) O ≡ weighted c b v O
unfolding at_place
at_place_some c b v O = let e : v + 1 ≡ suc v = omega arith in ap (λ (m : ℕ). at_place c b m O) e

holds_at_places : (ol : OutLayout) (O : List ℕ) (st : State) (c : RegClass) (w : Float) (ms : List (Option VirtReg)) → Holds ol O st → Weighs w
    → ((i : ℕ) (r : VirtReg) → get_or ms i none ≡ some r → r.0 < length st.registers)
    → Holds ol (at_places c.0 (to_bits binary32 w) (map place_word ms) O) (spread_to ms c w st)
unfolding at_places at_place spread
holds_at_places ol O st c w [] h ww f = h
holds_at_places ol O st c w (none ∷ ms) h ww f = holds_at_places ol O st c w ms h ww (λ i r e. f (suc i) r e)
holds_at_places ol O st c w (some v ∷ ms) h ww f =
    let st' : State = with_weight_at v c w st in
    let n : length st'.registers ≡ length st.registers = length_update (with_weight c w) v.0 st.registers in
    let k : Holds ol (weighted c.0 (to_bits binary32 w) v.0 O) st' = holds_weighted ol O st v c w h (f 0 v refl) ww in
    let g : (i : ℕ) (r : VirtReg) → get_or ms i none ≡ some r → r.0 < length st'.registers = λ i r e. let l = f (suc i) r e in omega arith in
    subst (λ (t : List ℕ). Holds ol (at_places c.0 (to_bits binary32 w) (map place_word ms) t) (spread_to ms c w st'))
    (sym (at_place_some c.0 (to_bits binary32 w) v.0 O))
    (holds_at_places ol (weighted c.0 (to_bits binary32 w) v.0 O) st' c w ms k ww g)

tab_map : (f : ℕ → ℕ) (ms : List (Option VirtReg)) (i : ℕ) → ((j : ℕ) → j < length ms → f (i + j) ≡ place_word (get_or ms j none)) → tab f i (length ms) ≡ map place_word ms
tab_map f [] i h = refl
tab_map f (m ∷ ms) i h =
    let first : f i ≡ place_word m = ap f (sym (add-zero i)) ∙ h 0 (omega arith) in
    let rest = tab_map f ms (i + 1) (λ j l. let e : i + 1 + j ≡ i + suc j = omega arith in ap f e ∙ h (suc j) (omega arith)) in
    λ x. first x ∷ rest x

module _ (ol : OutLayout) (O : List ℕ) (st : State) (h : Holds ol O st) (g : VirtRegGroup) (here : g.0 < length st.groups) where
  -- "A joining or merging register sets class and weight of all members."
  pub holds_spread : (c : RegClass) (w : Float) (b : ℕ) → b ≡ to_bits binary32 w → Weighs w
      → Holds ol (spread_in ol c.0 b g O) (spread_to (members_at st g) c w st)
  unfolding spread_in member_in
  holds_spread c w b eb ww =
      let ms : List (Option VirtReg) = members_at st g in
      let le = size_le ol O st h g here in
      let words : tab (member_in ol g O) 0 (get_or O (group_base ol + g.0 * group_row) 0) ≡ map place_word ms =
      ap (λ (n : ℕ). tab (member_in ol g O) 0 n) (size_held ol O st h g here)
      ∙ tab_map (member_in ol g O) ms 0 (λ j l. ap (λ (k : ℕ). member_in ol g O k) (zero-add j) ∙ member_held ol O st h g j here (omega arith)) in
      subst (λ (k : ℕ). Holds ol (at_places c.0 k (tab (member_in ol g O) 0 (get_or O (group_base ol + g.0 * group_row) 0)) O) (spread_to ms c w st)) (sym eb)
      (subst (λ (ws : List ℕ). Holds ol (at_places c.0 (to_bits binary32 w) ws O) (spread_to ms c w st)) (sym words)
      (holds_at_places ol O st c w ms h ww (λ i r e. member_lt ol O st h g i r here e)))

  -- what is asked of the words for that
  pub spread_able : Spreadable ol g O
  unfolding member_in
  spread_able =
      record {
        here = omega (arith, fit_groups h);
        size = subst (λ (n : ℕ). n ≤ max_group) (sym (size_held ol O st h g here)) (size_le ol O st h g here);
        members = λ i l. subst (λ (n : ℕ). n ≤ ol.regs) (sym (member_held ol O st h g i here l)) (go i (get_or (members_at st g) i none) refl);
      }
    where
      go : (i : ℕ) (m : Option VirtReg) → get_or (members_at st g) i none ≡ m → place_word m ≤ ol.regs
      go i none e = omega arith
      go i (some r) e = let l = member_lt ol O st h g i r here e in omega (arith, fit_registers h)

pub length_spread : (c : RegClass) (w : Float) (ms : List (Option VirtReg)) (rs : List Register) → length (spread c w ms rs) ≡ length rs
unfolding spread
length_spread c w [] rs = refl
length_spread c w (none ∷ ms) rs = length_spread c w ms rs
length_spread c w (some r ∷ ms) rs = length_spread c w ms (update (with_weight c w) r.0 rs) ∙ length_update (with_weight c w) r.0 rs

pub all_spread : (c : RegClass) (w : Float) (ms : List (Option VirtReg)) (rs : List Register) → all_pieces (spread c w ms rs) ≡ all_pieces rs
unfolding spread
all_spread c w [] rs = refl
all_spread c w (none ∷ ms) rs = all_spread c w ms rs
all_spread c w (some r ∷ ms) rs = all_spread c w ms (update (with_weight c w) r.0 rs) ∙ all_weight c w r.0 rs

-- it changes no count
pub counts_spread : (c : RegClass) (w : Float) (ms : List (Option VirtReg)) (st : State)
    → counts_of (spread_to ms c w st) ≡ counts_of st
counts_spread c w ms st =
    let st' : State = spread_to ms c w st in
    let n : length st'.registers ≡ length st.registers = length_spread c w ms st.registers in
    let p : pieces_in st' ≡ pieces_in st = count_pieces st' ∙ ap (λ (t : List Piece). length t) (all_spread c w ms st.registers) ∙ sym (count_pieces st) in
    let u : uses_in st' ≡ uses_in st = count_uses st' ∙ ap (λ (t : List Piece). length (uses_of (segs_of t))) (all_spread c w ms st.registers) ∙ sym (count_uses st) in
    λ x. record { regs = n x; segs = p x; uses = u x; groups = length st.groups }

-- ---- the places of a group

set_tab : (f k : ℕ → ℕ) (n i x : ℕ) → i < n → k i ≡ x → ((j : ℕ) → (j ≡ i → ⊥) → k j ≡ f j) → set (tab f 0 n) i x ≡ tab k 0 n
set_tab f k n i x h e o =
    ext_get_or 0 _ _ (length-set (tab f 0 n) i x ∙ length_tab f 0 n ∙ sym (length_tab k 0 n))
    (λ j l.
    let m : j < n = omega (arith, length-set (tab f 0 n) i x, length_tab f 0 n) in
    let z : 0 + j ≡ j = zero-add j in
    go j m (eqb j i) refl ∙ sym (get_or_tab k 0 n j 0 m ∙ ap k z))
  where
    go : (j : ℕ) → j < n → (b : Bool) → eqb j i ≡ b → get_or (set (tab f 0 n) i x) j 0 ≡ k j
    go j m true q =
        let w : j ≡ i = eqb-true j i q in
        ap (λ (t : ℕ). get_or (set (tab f 0 n) i x) t 0) w ∙ get_or-set_same (tab f 0 n) i x 0 (omega (arith, length_tab f 0 n)) ∙ sym e ∙ ap k (sym w)
    go j m false q = get_or-set_other (tab f 0 n) i j x 0 (eqb-false j i q) ∙ get_or_tab f 0 n j 0 m ∙ ap f (zero-add j) ∙ sym (o j (eqb-false j i q))

place_set : (ms : List (Option VirtReg)) (i : ℕ) (r : VirtReg) → i < length ms → i < max_group → set (group_words ms) (i + 1) (r.0 + 1) ≡ group_words (set ms i (some r))
place_set ms i r h l =
    let e : i + 1 ≡ suc i = omega arith in
    ap (λ (k : ℕ). set (group_words ms) k (r.0 + 1)) e
    ∙ ap (λ (t : List ℕ). length ms ∷ t)
    (set_tab (λ j. place_word (get_or ms j none)) (λ j. place_word (get_or (set ms i (some r)) j none)) max_group i (r.0 + 1) l
    (ap place_word (get_or-set_same ms i (some r) none h))
    (λ j n. ap place_word (get_or-set_other ms i j (some r) none n)))
    ∙ ap (λ (n : ℕ). n ∷ tab (λ j. place_word (get_or (set ms i (some r)) j none)) 0 max_group) (sym (length-set ms i (some r)))

placed_set : (ms : List (Option VirtReg)) (n i : ℕ) (r : VirtReg) → i < length ms → r.0 < n → Placed n ms → Placed n (set ms i (some r))
unfolding Placed
placed_set ms n i r h l p = (omega (arith, length-set ms i (some r), p.0), λ j s e. go j s e (eqb j i) refl)
  where
    go : (j : ℕ) (s : VirtReg) → get_or (set ms i (some r)) j none ≡ some s → (b : Bool) → eqb j i ≡ b → s.0 < n
    go j s e true q =
        let w : j ≡ i = eqb-true j i q in
        let f : some r ≡ some s = sym (get_or-set_same ms i (some r) none h) ∙ ap (λ (t : ℕ). get_or (set ms i (some r)) t none) (sym w) ∙ e in
        let z : r.0 + 1 ≡ s.0 + 1 = ap place_word f in
        omega arith
    go j s e false q = p.1 j s (sym (get_or-set_other ms i j (some r) none (eqb-false j i q)) ∙ e)

-- no member at any of n places
all_none : (n j : ℕ) → get_or {A = Option VirtReg} (replicate n none) j none ≡ none
all_none zero j = refl
all_none (suc n) zero = refl
all_none (suc n) (suc j) = all_none n j

empty_places : (f : ℕ → ℕ) → ((j : ℕ) → 0 ≡ f j) → (i k : ℕ) → replicate k 0 ≡ tab f i k
empty_places f z i zero = refl
empty_places f z i (suc k) = λ x. z i x ∷ empty_places f z (i + 1) k x

empty_group : (n : ℕ) → set (replicate group_row 0) 0 n ≡ group_words (replicate n none)
empty_group n =
    let z : (j : ℕ) → 0 ≡ place_word (get_or (replicate n none) j none) = λ j. sym (ap place_word (all_none n j)) in
    λ x. sym (length-replicate {A = Option VirtReg} n none) x ∷ empty_places (λ j. place_word (get_or (replicate n none) j none)) z 0 max_group x

placed_none : (n k : ℕ) → n ≤ max_group → Placed k (replicate n none)
unfolding Placed
placed_none n k h = (omega (arith, length-replicate {A = Option VirtReg} n none), λ i r e. let z : 0 ≡ r.0 + 1 = ap place_word (sym (all_none n i) ∙ e) in absurd (omega arith))

module _ (ol : OutLayout) (O : List ℕ) (st : State) (h : Holds ol O st) where
  -- register r at place i of group g
  pub holds_member : (g : VirtRegGroup) (i : ℕ) (r : VirtReg) → g.0 < length st.groups → i < length (members_at st g) → r.0 < length st.registers
      → Holds ol (set O (group_base ol + (g.0 * group_row + (i + 1))) (r.0 + 1)) (set_members g (set (members_at st g) i (some r)) st)
  unfolding members_at pieces_in uses_in
  holds_member g i r here hi hr =
      let gs : List (List (Option VirtReg)) = st.groups in
      let ms : List (Option VirtReg) = get_or gs g.0 [] in
      let ms' : List (Option VirtReg) = set ms i (some r) in
      let le = size_le ol O st h g here in
      let j : ℕ = g.0 * group_row + (i + 1) in
      let x : ℕ = r.0 + 1 in
      let lg : length (group_rows gs) ≡ length gs * group_row = length_groups gs in
      let rows : set (group_rows gs) j x ≡ group_rows (set gs g.0 ms') =
      ap (λ (t : List (List (Option VirtReg))). set (group_rows t) j x) (split_at gs g.0 [] here)
      ∙ row_put each_group still group_row (λ σ a. refl) tt (take g.0 gs) ms ms' (drop (suc g.0) gs) g.0 (i + 1) x (length-take-le g.0 gs (omega arith)) (omega arith)
      (place_set ms i r hi (omega arith)) refl
      ∙ ap (λ (t : List (List (Option VirtReg))). group_rows t) (sym (set_split gs g.0 ms' here)) in
      record {
        tabled = put_word (tables ol) (contents st) O h.tabled 3 (omega arith) (group_base ol + j) j x _ refl (omega arith) rows;
        typed = h.typed;
        weights = h.weights;
        members = each_set _ gs g.0 ms' h.members (placed_set ms (length st.registers) i r hi hr (each_get _ gs g.0 [] h.members here));
      }

  -- a group more: n places, of which place i has register r
  pub holds_group : (g : VirtRegGroup) (n i : ℕ) (r : VirtReg) → g.0 ≡ length st.groups → g.0 < ol.groups → n ≤ max_group → i < n → r.0 < length st.registers
      → Holds ol (set (set O (group_base ol + g.0 * group_row) n) (group_base ol + (g.0 * group_row + (i + 1))) (r.0 + 1))
      (add_group (set (replicate n none) i (some r)) st)
  unfolding rows_of pieces_in uses_in
  holds_group g n i r eg fg hn hi hr =
      let gs : List (List (Option VirtReg)) = st.groups in
      let none' : List (Option VirtReg) = replicate n none in
      let ms' : List (Option VirtReg) = set none' i (some r) in
      let k : ℕ = g.0 * group_row in
      let j : ℕ = g.0 * group_row + (i + 1) in
      let x : ℕ = r.0 + 1 in
      let lg : length (group_rows gs) ≡ length gs * group_row = length_groups gs in
      let lz : length none' ≡ n = length-replicate n none in
      let Z : List ℕ = replicate group_row 0 in
      let lw : length (group_rows gs ++ Z) ≡ length gs * group_row + group_row = length-append (group_rows gs) Z ∙ ap (λ (t : ℕ). t + group_row) lg in
      let ls : length (set (group_rows gs ++ Z) k n) ≡ length (group_rows gs ++ Z) = length-set (group_rows gs ++ Z) k n in
      let empty : set Z 0 n ≡ group_words none' = empty_group n in
      let rows : set (set (group_rows gs ++ Z) k n) j x ≡ group_rows (gs ++ (ms' ∷ [])) =
      ap (λ (t : List ℕ). set t j x) (set_past (group_rows gs) Z k 0 n (omega arith))
      ∙ set_past (group_rows gs) (set Z 0 n) j (i + 1) x (omega arith)
      ∙ ap (λ (t : List ℕ). group_rows gs ++ set t (i + 1) x) empty
      ∙ ap (λ (t : List ℕ). group_rows gs ++ t) (place_set none' i r (omega arith) (omega arith))
      ∙ sym (rows_append each_group still tt gs (ms' ∷ []) ∙ ap (λ (t : List ℕ). group_rows gs ++ t) (append-nil (group_words ms'))) in
      let row_there = put_zeros (tables ol) (contents st) O h.tabled 3 group_row _ (omega arith) (omega arith) refl in
      let size_set = put_word (tables ol) _ _ row_there 3 (omega arith) (group_base ol + k) k n _ refl (omega arith) refl in
      record {
        tabled = put_word (tables ol) _ _ size_set 3 (omega arith) (group_base ol + j) j x _ refl (omega arith) rows;
        typed = h.typed;
        weights = h.weights;
        members = each_append _ gs (ms' ∷ []) h.members (each_one _ ms' (placed_set none' (length st.registers) i r (omega arith) hr (placed_none n (length st.registers) hn)));
      }

-- ---- counts

pub counts_member : (st : State) (g : VirtRegGroup) (ms : List (Option VirtReg)) → counts_of (set_members g ms st) ≡ counts_of st
unfolding pieces_in uses_in
counts_member st g ms = λ x. record { regs = length st.registers; segs = pieces_in st; uses = uses_in st; groups = length-set st.groups g.0 ms x }

pub counts_group : (st : State) (c : Counts) (ms : List (Option VirtReg)) → c ≡ counts_of st
    → record { regs = c.regs; segs = c.segs; uses = c.uses; groups = c.groups + 1 } ≡ counts_of (add_group ms st)
unfolding pieces_in uses_in
counts_group st c ms ec =
    let n : length (st.groups ++ (ms ∷ [])) ≡ length st.groups + 1 = length-append st.groups (ms ∷ []) in
    ap (λ (x : Counts). record { regs = x.regs; segs = x.segs; uses = x.uses; groups = x.groups + 1 }) ec
    ∙ λ x. record { regs = length st.registers; segs = pieces_in st; uses = uses_in st; groups = sym n x }
