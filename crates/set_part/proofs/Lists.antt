-- A cut of segments that are read off a function, and of one segment's uses. Assumes nothing.
use mathlib.Core.Path.{◌≡◌, refl, sym, ap, ◌∙◌}
use mathlib.Core.Bool.{Bool, true, false}
use mathlib.Core.List.{List, [], ◌∷◌, ◌++◌}
use Prim.Native.Nat.{ℕ, zero, suc, ◌+◌, ◌-◌, ◌*◌, ◌≤◌, ◌<◌}
use native.Mathlib.Nat.{zero-add, add-zero, suc-add}
use native.Mathlib.Omega.{arith}
use lib.Dec.{leb, ltb}
use lib.ListN.{length, take, drop}
use borrow.Author.Tests.{lt-ltb, le-ltb, le-leb, lt-leb}
use Rattle.words.specs.Tab.{tab, length_tab, tab_ext, take_tab, drop_tab}
use Rattle.words.specs.RowsAt.{rows_at}
use Rattle.definition.specs.declared.Inst.{Inst}
use Rattle.definition.specs.declared.Use.{Use}
use Rattle.definition.specs.declared.Hint.{Hint}
use Rattle.definition.specs.Types.{Segment, point}
use Rattle.definition.specs.Cuts.{left_of, right_of, left_cut, right_cut, uses_before, uses_from}
use Rattle.uses.specs.Rows.{use_row, uses_at}
use Rattle.uses.proofs.Scans.{before_take, from_drop}
use Rattle.hints.specs.Flags.{left_flags, right_flags}
use Rattle.job.specs.declared.Layout.{Layout}
use Rattle.set_part.specs.declared.PartSeg.{PartSeg}
use Rattle.set_part.specs.Part.{seg_by}
use Rattle.set_part.specs.Cut.{mid_use}
use Rattle.set_part.proofs.Rows.{ended_at, begun_at}

-- ---- segments that end by the cut go left

module _ (hs : List Hint) (p : Inst) where
  pub left_skip : (g : ℕ → Segment) (n i m : ℕ) → ((j : ℕ) → i ≤ j → j < i + n → (g j).to.0 ≤ 4 * p.0)
      → left_cut hs p (tab g i (n + m)) ≡ tab g i n ++ left_cut hs p (tab g (i + n) m)
  unfolding left_cut
  left_skip g zero i m h = rw (zero-add, add-zero)
  left_skip g (suc n) i m h =
      let e : i + suc n ≡ i + 1 + n = omega arith in
      let t : leb (g i).to.0 (4 * p.0) ≡ true = le-leb (g i).to.0 (4 * p.0) (h i (omega arith) (omega arith)) in
      rw (suc-add, e, t, left_cut) (ap (λ (l : List Segment). g i ∷ l) (left_skip g n (i + 1) m (λ j a b. h j (omega arith) (omega arith))))

  pub right_skip : (g : ℕ → Segment) (n i m : ℕ) → ((j : ℕ) → i ≤ j → j < i + n → (g j).to.0 ≤ 4 * p.0)
      → right_cut hs p (tab g i (n + m)) ≡ right_cut hs p (tab g (i + n) m)
  unfolding right_cut
  right_skip g zero i m h = rw (zero-add, add-zero)
  right_skip g (suc n) i m h =
      let e : i + suc n ≡ i + 1 + n = omega arith in
      let t : leb (g i).to.0 (4 * p.0) ≡ true = le-leb (g i).to.0 (4 * p.0) (h i (omega arith) (omega arith)) in
      rw (suc-add, e, t, right_cut) (right_skip g n (i + 1) m (λ j a b. h j (omega arith) (omega arith)))

  -- the first that does not: it is split, or begins behind the cut
  module _ (s : Segment) (ss : List Segment) (past : 4 * p.0 < s.to.0) where
    pub left_split : s.«from».0 < 4 * p.0 → left_cut hs p (s ∷ ss) ≡ left_of hs p s ∷ []
    unfolding left_cut
    left_split h = rw (lt-leb s.to.0 (4 * p.0) past, lt-ltb s.«from».0 (4 * p.0) h, left_cut)

    pub left_none : 4 * p.0 ≤ s.«from».0 → left_cut hs p (s ∷ ss) ≡ []
    unfolding left_cut
    left_none h = rw (lt-leb s.to.0 (4 * p.0) past, le-ltb s.«from».0 (4 * p.0) h, left_cut)

    pub right_split : s.«from».0 < 4 * p.0 → right_cut hs p (s ∷ ss) ≡ right_of hs p s ∷ ss
    unfolding right_cut
    right_split h = rw (lt-leb s.to.0 (4 * p.0) past, lt-ltb s.«from».0 (4 * p.0) h, right_cut)

    pub right_all : 4 * p.0 ≤ s.«from».0 → right_cut hs p (s ∷ ss) ≡ s ∷ ss
    unfolding right_cut
    right_all h = rw (lt-leb s.to.0 (4 * p.0) past, le-ltb s.«from».0 (4 * p.0) h, right_cut)

-- ---- uses before the cut

pub before_le : (p : Inst) (us : List Use) → length (uses_before p us) ≤ length us
unfolding uses_before
before_le p [] = omega arith
before_le p (u ∷ us) = go (ltb u.pos.0 p.0) refl (before_le p us)
  where
    go : (b : Bool) → ltb u.pos.0 p.0 ≡ b → length (uses_before p us) ≤ length us → length (uses_before p (u ∷ us)) ≤ length (u ∷ us)
    go true e ih = rw (e, uses_before) (omega arith)
    go false e ih = rw (e, uses_before) (omega arith)

-- how many there are depends on the instructions alone
before_alike : (p : Inst) (f g : ℕ → Use) → ((j : ℕ) → (f j).pos ≡ (g j).pos) → (k a : ℕ) → length (uses_before p (tab f a k)) ≡ length (uses_before p (tab g a k))
unfolding uses_before
before_alike p f g h zero a = refl
before_alike p f g h (suc k) a = go (ltb (f a).pos.0 p.0) refl (before_alike p f g h k (a + 1))
  where
    go : (b : Bool) → ltb (f a).pos.0 p.0 ≡ b → length (uses_before p (tab f (a + 1) k)) ≡ length (uses_before p (tab g (a + 1) k))
        → length (uses_before p (tab f a (suc k))) ≡ length (uses_before p (tab g a (suc k)))
    go true e ih = let d : ltb (g a).pos.0 p.0 ≡ true = ap (λ (q : Inst). ltb q.0 p.0) (sym (h a)) ∙ e in rw (e, d, uses_before) (ap suc ih)
    go false e ih = let d : ltb (g a).pos.0 p.0 ≡ false = ap (λ (q : Inst). ltb q.0 p.0) (sym (h a)) ∙ e in rw (e, d, uses_before)

module _ (W : List ℕ) (lay : Layout) (p : Inst) (f : ℕ → Use) (pos : (j : ℕ) → (f j).pos ≡ (use_row W (lay.uses.at + j * 6)).pos) (r : PartSeg) (rise : r.first ≤ r.end) where
  abbrev own : List Use
  own = tab f r.first (r.end - r.first)

  before_count : r.first + length (uses_before p own) ≡ mid_use W lay p r
  unfolding mid_use uses_at rows_at
  before_count =
      ap (λ (n : ℕ). r.first + n)
      (before_alike p f (λ j. use_row W (lay.uses.at + j * 6)) pos (r.end - r.first) r.first
      ∙ ap (λ (us : List Use). length (uses_before p us))
      (tab_ext (λ j. use_row W (lay.uses.at + j * 6)) (λ k. use_row W (lay.uses.at + r.first * 6 + k * 6)) r.first 0 (r.end - r.first)
      (λ n l.
      let e : lay.uses.at + (r.first + n) * 6 ≡ lay.uses.at + r.first * 6 + (0 + n) * 6 = omega arith in
      ap (λ (k : ℕ). use_row W k) e)))

  pub mid_in : (r.first ≤ mid_use W lay p r) × (mid_use W lay p r ≤ r.end)
  mid_in =
      let a = before_count in
      let b = before_le p own in
      let c = length_tab f r.first (r.end - r.first) in
      (omega arith, omega arith)

  uses_left : uses_before p own ≡ tab f r.first (mid_use W lay p r - r.first)
  uses_left =
      let a = before_count in
      let e : length (uses_before p own) ≡ mid_use W lay p r - r.first = omega arith in
      before_take p own ∙ ap (λ (n : ℕ). take n own) e ∙ take_tab f r.first (mid_use W lay p r) r.end mid_in.0 mid_in.1

  uses_right : uses_from p own ≡ tab f (mid_use W lay p r) (r.end - mid_use W lay p r)
  uses_right =
      let a = before_count in
      let e : length (uses_before p own) ≡ mid_use W lay p r - r.first = omega arith in
      from_drop p own ∙ ap (λ (n : ℕ). drop n own) e ∙ drop_tab f r.first (mid_use W lay p r) r.end mid_in.0 mid_in.1

  -- the two sides of a segment that is split
  pub left_seg : (hs : List Hint) → left_of hs p (seg_by f r) ≡ seg_by f (ended_at r (point (4 * p.0)) (left_flags hs p r.value r.«from» r.flags) (mid_use W lay p r))
  unfolding left_of seg_by left_flags
  left_seg hs = rw uses_left

  pub right_seg : (hs : List Hint) → right_of hs p (seg_by f r) ≡ seg_by f (begun_at r (point (4 * p.0)) (right_flags hs p r.value r.to r.flags) (mid_use W lay p r))
  unfolding right_of seg_by right_flags
  right_seg hs = rw uses_right
