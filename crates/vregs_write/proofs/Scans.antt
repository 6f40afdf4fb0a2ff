-- Turns of the scans over a register's pieces. Assumes nothing.
use Rattle.std.specs.Prelude.{◌≡◌, refl, Bool, true, false, cond, ◌&&◌, List, ◌∷◌, ℕ, zero, suc, ◌==◌, ◌+◌, ◌-◌, ◌*◌, ◌≤◌, ◌<◌, leb, ltb, length, get_or, drop, None, Some}
use Rattle.std.proofs.Common.{sym, ap, ◌∙◌, arith, drop-cons, drop_of_length-le, is_lt, nat_cmp}
use Rattle.std.specs.declared.cmp.Ordering.TheVariants.{Less, Equal, Greater}
use Rattle.std.specs.declared.ops.Range.{Range}
use Rattle.std.specs.Fn.{Called}
use Rattle.std.specs.Iterator.{ChecksAny}
use Rattle.std.specs.List.{list_any, range_with_len}
use Rattle.std.proofs.iter.Yields.{nat_range_steps}
use Rattle.std.proofs.lemmas.Iterator.{YieldsList-from_range}
use Rattle.std.proofs.lemmas.Iterator.Search.{any_from_yields_List}
use denote.Param.Members.{Mut}
use borrow.Author.Tests.{le-leb, lt-leb, ltb-true, ltb-false}
use Rattle.definition.specs.declared.LiveRangePoint.{LiveRangePoint}
use Rattle.definition.specs.Types.{Piece, State}
use Rattle.definition.specs.Place.{overlaps}
use Rattle.definition.specs.declared.VirtReg.{VirtReg}
use Rattle.definition.specs.Admit.{register_at}
use Rattle.virt_regs.specs.declared.OutLayout.{OutLayout}
use Rattle.virt_regs.specs.declared.PieceRow.{PieceRow}
use Rattle.virt_regs.specs.Encoding.{seg_base, Holds}
use Rattle.virt_regs.specs.Reads.{no_piece, piece_in, first_held, count_held}
use Rattle.vregs_write.specs.Ends.{one_more, ends_by, pick_place, place_of, Shows, overlaps_rest, shows_held}

cut_at : (ps : List Piece) (i : ℕ) → i < length ps → drop i ps ≡ get_or ps i no_piece ∷ drop (i + 1) ps
cut_at ps i h = let e : suc i ≡ i + 1 = omega arith in drop-cons ps i no_piece h ∙ ap (λ (k : ℕ). get_or ps i no_piece ∷ drop k ps) e

-- ---- the test between two points, and a piece's row

below : (x y : ℕ) (t : Bool) → t ≡ is_lt (nat_cmp x y) → t ≡ ltb x y
below x y t e = e ∙ go (ltb x y) (x == y)
  where
    go : (a b : Bool) → is_lt (cond a Less (cond b Equal Greater)) ≡ a
    go true b = refl
    go false true = refl
    go false false = refl

module _ (ol : OutLayout) (O : List ℕ) (i : ℕ) (r : PieceRow) (e : r ≡ piece_in O (seg_base ol + i * 7)) where
  to_is : r.to.0 ≡ get_or O (seg_base ol + (i * 7 + 2)) 0
  unfolding piece_in
  to_is = let k : seg_base ol + i * 7 + 2 ≡ seg_base ol + (i * 7 + 2) = omega arith in ap (λ (q : PieceRow). q.to.0) e ∙ ap (λ (j : ℕ). get_or O j 0) k

  from_is : r.«from».0 ≡ get_or O (seg_base ol + (i * 7 + 1)) 0
  unfolding piece_in
  from_is = let k : seg_base ol + i * 7 + 1 ≡ seg_base ol + (i * 7 + 1) = omega arith in ap (λ (q : PieceRow). q.«from».0) e ∙ ap (λ (j : ℕ). get_or O j 0) k

-- the first i pieces end by a
pub record EndsOn (ol : OutLayout) (O : List ℕ) (first count : ℕ) (a : LiveRangePoint) (i : ℕ) : Type 0 where
  pub within : i ≤ count
  pub so_far : (ps : List Piece) → length ps ≡ count → Shows ol O first ps → ends_by a ps ≡ i + ends_by a (drop i ps)

module _ (ol : OutLayout) (O : List ℕ) (first count : ℕ) (a : LiveRangePoint) (i : ℕ) (e : EndsOn ol O first count a i) (h : i < count) (r : PieceRow) (er : r ≡ piece_in O (seg_base ol + (first + i) * 7))
    (x : Bool) (ex : x ≡ is_lt (nat_cmp a.0 r.to.0)) where
  end_is : (ps : List Piece) → length ps ≡ count → Shows ol O first ps → r.to.0 ≡ (get_or ps i no_piece).seg.to.0
  end_is ps n s = to_is ol O (first + i) r er ∙ s.ends i (omega arith)

  pub ends_next : x ≡ false → EndsOn ol O first count a (i + 1)
  unfolding ends_by
  ends_next f = record { within = omega arith; so_far = λ ps n s. e.so_far ps n s ∙ turn ps n s }
    where
      turn : (ps : List Piece) → length ps ≡ count → Shows ol O first ps → i + ends_by a (drop i ps) ≡ i + 1 + ends_by a (drop (i + 1) ps)
      turn ps n s =
          let l = ltb-false a.0 r.to.0 (sym (below _ _ x ex) ∙ f) in
          let t : leb (get_or ps i no_piece).seg.to.0 a.0 ≡ true = le-leb _ a.0 (omega (arith, end_is ps n s)) in
          let k : i + suc (ends_by a (drop (i + 1) ps)) ≡ i + 1 + ends_by a (drop (i + 1) ps) = omega arith in
          ap (λ (l : List Piece). i + ends_by a l) (cut_at ps i (omega arith)) ∙ ap (λ (b : Bool). i + one_more b (ends_by a (drop (i + 1) ps))) t ∙ k

  pub ends_stop : x ≡ true → (ps : List Piece) → length ps ≡ count → Shows ol O first ps → i ≡ ends_by a ps
  unfolding ends_by
  ends_stop f ps n s =
      let l = ltb-true a.0 r.to.0 (sym (below _ _ x ex) ∙ f) in
      let t : leb (get_or ps i no_piece).seg.to.0 a.0 ≡ false = lt-leb _ a.0 (omega (arith, end_is ps n s)) in
      let k : i + 0 ≡ i = omega arith in
      sym (e.so_far ps n s ∙ ap (λ (l : List Piece). i + ends_by a l) (cut_at ps i (omega arith)) ∙ ap (λ (b : Bool). i + one_more b (ends_by a (drop (i + 1) ps))) t ∙ k)

pub ends_done : (ol : OutLayout) (O : List ℕ) (first count : ℕ) (a : LiveRangePoint) (i : ℕ) → EndsOn ol O first count a i → count ≤ i
    → (ps : List Piece) → length ps ≡ count → Shows ol O first ps → count ≡ ends_by a ps
unfolding ends_by
ends_done ol O first count a i e h ps n s =
    let k : i + 0 ≡ count = omega (arith, e.within) in
    sym (e.so_far ps n s ∙ ap (λ (l : List Piece). i + ends_by a l) (drop_of_length-le ps {i = i} (omega arith)) ∙ k)

-- ---- overlaps

-- whether piece i ends after a and begins before b
abbrev pub touch : OutLayout → List ℕ → LiveRangePoint → LiveRangePoint → ℕ → Bool
touch ol O a b i = ltb a.0 (get_or O (seg_base ol + (i * 7 + 2)) 0) && ltb (get_or O (seg_base ol + (i * 7 + 1)) 0) b.0

module _ (ol : OutLayout) (O : List ℕ) (i : ℕ) (a b : LiveRangePoint) (r : PieceRow) (e : r ≡ piece_in O (seg_base ol + i * 7)) (x : Bool) (ex : x ≡ is_lt (nat_cmp a.0 r.to.0)) where
  ends_after : x ≡ ltb a.0 (get_or O (seg_base ol + (i * 7 + 2)) 0)
  ends_after = below _ _ x ex ∙ ap (ltb a.0) (to_is ol O i r e)

  pub touch_not : x ≡ false → x ≡ touch ol O a b i
  touch_not f = rw (← ends_after, f)

  pub touch_as : x ≡ true → (y : Bool) → y ≡ is_lt (nat_cmp r.«from».0 b.0) → y ≡ touch ol O a b i
  touch_as f y ey = rw (← ends_after, f) (below _ _ y ey ∙ ap (λ (w : ℕ). ltb w b.0) (from_is ol O i r e))

-- n pieces from piece k on are tested in turn
any_touches : (ol : OutLayout) (O : List ℕ) (first : ℕ) (a b : LiveRangePoint) (ps : List Piece) → Shows ol O first ps → (k n : ℕ) → k + n ≡ length ps
    → list_any (λ j. touch ol O a b (first + j)) (range_with_len k n) ≡ overlaps a b (drop k ps)
unfolding overlaps
any_touches ol O first a b ps s k zero e = sym (ap (overlaps a b) (drop_of_length-le ps {i = k} (omega arith)))
any_touches ol O first a b ps s k (suc n) e =
    rw (s.ends k (omega arith), s.begins k (omega arith), any_touches ol O first a b ps s (k + 1) n (omega arith), cut_at ps k (omega arith))

pub meets_all : {F : Type 0} {g : Mut F (ℕ × Unit {0}) Bool} (ol : OutLayout) (O : List ℕ) (first count k : ℕ) (a b : LiveRangePoint) {u : Range ℕ} {h : F} {r : Bool} → k ≤ count
    → ChecksAny nat_range_steps g (record { start = k; end = count }) h r u → ((x : ℕ) (t : Bool) (q : F) → Called g h (x, tt) t q → (q ≡ h) × (t ≡ touch ol O a b (first + x)))
    → (ps : List Piece) → length ps ≡ count → Shows ol O first ps → r ≡ overlaps a b (drop k ps)
meets_all ol O first count k a b {u} {h} {r} l ran is ps n s =
    any_from_yields_List (λ x. touch ol O a b (first + x)) u h r ran (YieldsList-from_range k count (count - k) refl refl) is
    ∙ any_touches ol O first a b ps s k (count - k) (omega arith)

-- ---- the place

module _ (ol : OutLayout) (O : List ℕ) (v : VirtReg) (f n k : ℕ) (a b : LiveRangePoint) (x : Bool) (ef : f ≡ get_or O (v.0 * 8 + 6) 0) (en : n ≡ get_or O (v.0 * 8 + 7) 0)
    (ek : (ps : List Piece) → length ps ≡ n → Shows ol O f ps → k ≡ ends_by a ps) (ex : (ps : List Piece) → length ps ≡ n → Shows ol O f ps → x ≡ overlaps a b (drop k ps)) where
  place_is : (st : State) → Holds ol O st → v.0 < length st.registers → pick_place x k ≡ place_of a b (register_at st v).pieces
  unfolding place_of
  place_is st h here =
      let ps : List Piece = (register_at st v).pieces in
      let s : Shows ol O f ps = shows_held ol O st v f h here (ef ∙ first_held ol O st h v here) in
      let l : length ps ≡ n = sym (en ∙ count_held ol O st h v here) in
      let e : k ≡ ends_by a ps = ek ps l s in
      let o : x ≡ overlaps a b ps = ex ps l s ∙ ap (λ (j : ℕ). overlaps a b (drop j ps)) e ∙ sym (overlaps_rest a b ps) in
      ap (λ (c : Bool). pick_place c k) o ∙ ap (λ (j : ℕ). pick_place (overlaps a b ps) j) e

  pub place_overlap : x ≡ true → (st : State) → Holds ol O st → v.0 < length st.registers → None ≡ place_of a b (register_at st v).pieces
  place_overlap t st h here = ap (λ (c : Bool). pick_place c k) (sym t) ∙ place_is st h here

  pub place_at : x ≡ false → (st : State) → Holds ol O st → v.0 < length st.registers → Some k ≡ place_of a b (register_at st v).pieces
  place_at t st h here = ap (λ (c : Bool). pick_place c k) (sym t) ∙ place_is st h here
