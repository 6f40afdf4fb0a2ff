-- The two sides of a cut part are the cut's two lists of segments. Assumes nothing.
use mathlib.Core.Path.{◌≡◌, refl, sym, ap, ◌∙◌}
use mathlib.Core.Bool.{Bool, true, false}
use mathlib.Core.List.{List, [], ◌∷◌, ◌++◌, append-nil}
use Prim.Native.Nat.{ℕ, suc, ◌+◌, ◌-◌, ◌*◌, ◌≤◌, ◌<◌}
use native.Mathlib.Omega.{arith}
use lib.Dec.{ltb, eqb}
use lib.ListN.{get_or}
use borrow.Author.Tests.{ltb-true, ltb-false}
use Rattle.words.specs.Tab.{tab, tab_ext, tab_snoc}
use Rattle.definition.specs.declared.Inst.{Inst}
use Rattle.definition.specs.declared.LiveRangePoint.{LiveRangePoint}
use Rattle.definition.specs.declared.UseFlags.{UseFlags}
use Rattle.definition.specs.declared.Hint.{Hint}
use Rattle.definition.specs.Types.{Segment, point}
use Rattle.definition.specs.Cuts.{left_cut, right_cut}
use Rattle.uses.specs.Rows.{use_row}
use Rattle.hints.specs.Flags.{left_flags, right_flags}
use Rattle.job.specs.declared.Layout.{Layout}
use Rattle.set_part.specs.declared.SetPart.{SetPart}
use Rattle.set_part.specs.declared.PartSeg.{PartSeg}
use Rattle.set_part.specs.Part.{part_row, marked_use, seg_by, part_segs, PartOk}
use Rattle.set_part.proofs.Alike.{row_first, row_end}
use Rattle.set_part.specs.Cut.{left_part, right_part, mid_use, first_past, cut_across, cut_between, cut_at, cut_part}
use Rattle.set_part.proofs.Past.{Past, past_first}
use Rattle.set_part.proofs.Rows.{ended_at, begun_at, left_row_lem, left_row_last, right_row_lem, right_row_first}
use Rattle.set_part.proofs.Lists.{left_skip, right_skip, left_split, left_none, right_split, right_all, left_seg, right_seg}
use Rattle.set_part.proofs.CutsRead.{row_behind}

-- a mark does not change a use's instruction
pub marked_pos : (K : List ℕ) (marks : ℕ) (W : List ℕ) (lay : Layout) (j : ℕ) → (marked_use K marks W lay j).pos ≡ (use_row W (lay.uses.at + j * 6)).pos
unfolding marked_use
marked_pos K marks W lay j = go (eqb (get_or K (marks + j) 0) 0) refl
  where
    go : (t : Bool) → eqb (get_or K (marks + j) 0) 0 ≡ t → (marked_use K marks W lay j).pos ≡ (use_row W (lay.uses.at + j * 6)).pos
    go true e = rw e
    go false e = rw e

module _ (K : List ℕ) (marks : ℕ) (W : List ℕ) (lay : Layout) where
  abbrev seg : SetPart → ℕ → Segment
  seg sp i = seg_by (marked_use K marks W lay) (part_row W lay sp i)

  seg_to : (sp : SetPart) (i : ℕ) → (seg sp i).to.0 ≡ (part_row W lay sp i).to.0
  unfolding seg_by
  seg_to sp i = refl

  seg_from : (sp : SetPart) (i : ℕ) → (seg sp i).«from».0 ≡ (part_row W lay sp i).«from».0
  unfolding seg_by
  seg_from sp i = refl

  -- a part up to segment k
  left_new : (sp : SetPart) (k : ℕ) → sp.seg ≤ k → k ≤ sp.last → (t : LiveRangePoint) (f : UseFlags) (e : ℕ)
      → part_segs K marks W lay (left_part sp k t f e) ≡ tab (seg sp) sp.seg (k - sp.seg) ++ (seg_by (marked_use K marks W lay) (ended_at (part_row W lay sp k) t f e) ∷ [])
  unfolding part_segs left_part
  left_new sp k lo hi t f e =
      let q = left_part sp k t f e in
      let n : k + 1 - sp.seg ≡ (k - sp.seg) + 1 = omega arith in
      let here : sp.seg + (k - sp.seg) ≡ k = omega arith in
      ap (λ (m : ℕ). tab (seg q) sp.seg m) n
      ∙ tab_snoc (seg q) sp.seg (k - sp.seg)
      ∙ ap (λ (l : List Segment). l ++ (seg q (sp.seg + (k - sp.seg)) ∷ []))
      (tab_ext (seg q) (seg sp) sp.seg sp.seg (k - sp.seg)
      (λ i l. ap (λ (r : PartSeg). seg_by (marked_use K marks W lay) r) (left_row_lem W lay sp k lo hi t f e (sp.seg + i) (omega arith) (omega arith))))
      ∙ ap (λ (i : ℕ). tab (seg sp) sp.seg (k - sp.seg) ++ (seg q i ∷ [])) here
      ∙ ap (λ (r : PartSeg). tab (seg sp) sp.seg (k - sp.seg) ++ (seg_by (marked_use K marks W lay) r ∷ [])) (left_row_last W lay sp k lo hi t f e)

  module _ (hs : List Hint) (p : Inst) (sp : SetPart) (ok : PartOk W lay sp) (k : ℕ) (at : Past W lay sp (4 * p.0) k) where
    abbrev row : PartSeg
    row = part_row W lay sp k

    -- segments before k
    abbrev front : List Segment
    front = tab (seg sp) sp.seg (k - sp.seg)

    -- segments behind k
    abbrev back : List Segment
    back = tab (seg sp) (k + 1) (sp.last - k)

    here : sp.seg + (k - sp.seg) ≡ k
    here = omega (arith, at.behind)

    ended : (j : ℕ) → sp.seg ≤ j → j < sp.seg + (k - sp.seg) → (seg sp j).to.0 ≤ 4 * p.0
    ended j a b = omega (arith, here, seg_to sp j, at.ended j a (omega (arith, here)))

    past : 4 * p.0 < (seg sp k).to.0
    past = omega (arith, seg_to sp k, at.past)

    rise : row.first ≤ row.end
    rise = omega (arith, row_first W lay sp k, row_end W lay sp k, ok.rise k at.behind at.within)

    all : part_segs K marks W lay sp ≡ tab (seg sp) sp.seg ((k - sp.seg) + suc (sp.last - k))
    unfolding part_segs
    all =
        let e : sp.last + 1 - sp.seg ≡ (k - sp.seg) + suc (sp.last - k) = omega (arith, at.behind, at.within) in
        ap (λ (n : ℕ). tab (seg sp) sp.seg n) e

    left_list : left_cut hs p (part_segs K marks W lay sp) ≡ front ++ left_cut hs p (seg sp k ∷ back)
    left_list =
        ap (λ (l : List Segment). left_cut hs p l) all
        ∙ left_skip hs p (seg sp) (k - sp.seg) sp.seg (suc (sp.last - k)) ended
        ∙ ap (λ (n : ℕ). front ++ left_cut hs p (tab (seg sp) n (suc (sp.last - k)))) here

    right_list : right_cut hs p (part_segs K marks W lay sp) ≡ right_cut hs p (seg sp k ∷ back)
    right_list =
        ap (λ (l : List Segment). right_cut hs p l) all
        ∙ right_skip hs p (seg sp) (k - sp.seg) sp.seg (suc (sp.last - k)) ended
        ∙ ap (λ (n : ℕ). right_cut hs p (tab (seg sp) n (suc (sp.last - k)))) here

    -- ---- a part from segment k on

    right_new : (q : LiveRangePoint) (f : UseFlags) (n : ℕ) → part_segs K marks W lay (right_part sp k q f n) ≡ seg_by (marked_use K marks W lay) (begun_at row q f n) ∷ back
    unfolding part_segs right_part
    right_new q f n =
        let x = right_part sp k q f n in
        let m : sp.last + 1 - k ≡ suc (sp.last - k) = omega (arith, at.within) in
        ap (λ (i : ℕ). tab (seg x) k i) m
        ∙ ap (λ (l : List Segment). seg x k ∷ l)
        (tab_ext (seg x) (seg sp) (k + 1) (k + 1) (sp.last - k)
        (λ i l. ap (λ (r : PartSeg). seg_by (marked_use K marks W lay) r) (right_row_lem W lay sp k at.behind at.within q f n (k + 1 + i) (omega arith))))
        ∙ ap (λ (r : PartSeg). seg_by (marked_use K marks W lay) r ∷ back) (right_row_first W lay sp k at.behind at.within q f n)

    -- ---- across segment k

    module _ (h : row.«from».0 < 4 * p.0) where
      begins : (seg sp k).«from».0 < 4 * p.0
      begins = omega (arith, seg_from sp k)

      left_across : left_cut hs p (part_segs K marks W lay sp) ≡ part_segs K marks W lay (cut_across hs W lay p sp k row).left
      unfolding cut_across
      left_across =
          left_list
          ∙ ap (λ (l : List Segment). front ++ l) (left_split hs p (seg sp k) back past begins)
          ∙ ap (λ (s : Segment). front ++ (s ∷ [])) (left_seg W lay p (marked_use K marks W lay) (marked_pos K marks W lay) row rise hs)
          ∙ sym (left_new sp k at.behind at.within (point (4 * p.0)) (left_flags hs p row.value row.«from» row.flags) (mid_use W lay p row))

      right_across : right_cut hs p (part_segs K marks W lay sp) ≡ part_segs K marks W lay (cut_across hs W lay p sp k row).right
      unfolding cut_across
      right_across =
          right_list
          ∙ right_split hs p (seg sp k) back past begins
          ∙ ap (λ (s : Segment). s ∷ back) (right_seg W lay p (marked_use K marks W lay) (marked_pos K marks W lay) row rise hs)
          ∙ sym (right_new (point (4 * p.0)) (right_flags hs p row.value row.to row.flags) (mid_use W lay p row))

    -- ---- between segment k - 1 and segment k

    module _ (h : 4 * p.0 ≤ row.«from».0) (b : sp.seg + 1 ≤ k) where
      behind : 4 * p.0 ≤ (seg sp k).«from».0
      behind = omega (arith, seg_from sp k)

      right_between : right_cut hs p (part_segs K marks W lay sp) ≡ part_segs K marks W lay (cut_between sp k (part_row W lay sp (k - 1)) row).right
      unfolding cut_between
      right_between = right_list ∙ right_all hs p (seg sp k) back past behind ∙ sym (right_new row.«from» row.flags row.first)

      left_between : left_cut hs p (part_segs K marks W lay sp) ≡ part_segs K marks W lay (cut_between sp k (part_row W lay sp (k - 1)) row).left
      unfolding cut_between
      left_between =
          let o = part_row W lay sp (k - 1) in
          let n : k - sp.seg ≡ (k - 1 - sp.seg) + 1 = omega arith in
          let i : sp.seg + (k - 1 - sp.seg) ≡ k - 1 = omega arith in
          left_list
          ∙ ap (λ (l : List Segment). front ++ l) (left_none hs p (seg sp k) back past behind)
          ∙ append-nil front
          ∙ ap (λ (m : ℕ). tab (seg sp) sp.seg m) n
          ∙ tab_snoc (seg sp) sp.seg (k - 1 - sp.seg)
          ∙ ap (λ (j : ℕ). tab (seg sp) sp.seg (k - 1 - sp.seg) ++ (seg sp j ∷ [])) i
          ∙ sym (left_new sp (k - 1) (omega arith) (omega (arith, at.within)) o.to o.flags o.end)

    -- ---- both ways

    module _ (open' : sp.«from».0 < 4 * p.0) where
      not_first : 4 * p.0 ≤ row.«from».0 → sp.seg + 1 ≤ k
      not_first h = row_behind W lay sp (4 * p.0) k row refl at.behind open' h

      left_at : left_cut hs p (part_segs K marks W lay sp) ≡ part_segs K marks W lay (cut_at hs W lay p sp k).left
      unfolding cut_at
      left_at = go (ltb row.«from».0 (4 * p.0)) refl
        where
          go : (t : Bool) → ltb row.«from».0 (4 * p.0) ≡ t → left_cut hs p (part_segs K marks W lay sp) ≡ part_segs K marks W lay (cut_at hs W lay p sp k).left
          go true e = rw e (left_across (ltb-true row.«from».0 (4 * p.0) e))
          go false e = let h = ltb-false row.«from».0 (4 * p.0) e in rw e (left_between h (not_first h))

      right_at : right_cut hs p (part_segs K marks W lay sp) ≡ part_segs K marks W lay (cut_at hs W lay p sp k).right
      unfolding cut_at
      right_at = go (ltb row.«from».0 (4 * p.0)) refl
        where
          go : (t : Bool) → ltb row.«from».0 (4 * p.0) ≡ t → right_cut hs p (part_segs K marks W lay sp) ≡ part_segs K marks W lay (cut_at hs W lay p sp k).right
          go true e = rw e (right_across (ltb-true row.«from».0 (4 * p.0) e))
          go false e = let h = ltb-false row.«from».0 (4 * p.0) e in rw e (right_between h (not_first h))

-- ---- the laws of a cut. A part that begins before the cut and ends behind it has both sides.

module _ (hs : List Hint) (W : List ℕ) (lay : Layout) (p : Inst) (sp : SetPart) (ok : PartOk W lay sp) (open' : sp.«from».0 < 4 * p.0) (end' : 4 * p.0 < sp.to.0) where
  pub cut_left : (K : List ℕ) (marks : ℕ) → left_cut hs p (part_segs K marks W lay sp) ≡ part_segs K marks W lay (cut_part hs W lay p sp).left
  unfolding cut_part
  cut_left K marks = left_at K marks W lay hs p sp ok (first_past W lay sp (4 * p.0)) (past_first W lay sp (4 * p.0) ok.order end') open'

  pub cut_right : (K : List ℕ) (marks : ℕ) → right_cut hs p (part_segs K marks W lay sp) ≡ part_segs K marks W lay (cut_part hs W lay p sp).right
  unfolding cut_part
  cut_right K marks = right_at K marks W lay hs p sp ok (first_past W lay sp (4 * p.0)) (past_first W lay sp (4 * p.0) ok.order end') open'
