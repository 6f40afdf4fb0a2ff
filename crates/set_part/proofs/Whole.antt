-- The part that is a whole set has the job's own segments. Assumes nothing.
use mathlib.Core.Path.{◌≡◌, refl, sym, ap, ◌∙◌}
use mathlib.Core.Bool.{Bool, true, false, cond}
use mathlib.Core.List.{List}
use Prim.Native.Nat.{ℕ, ◌+◌, ◌-◌, ◌*◌, ◌≤◌, ◌<◌}
use native.Mathlib.Omega.{arith}
use lib.Dec.{eqb, ltb}
use lib.ListN.{get_or}
use borrow.Author.Tests.{lt-ltb, eqb-true, eqb-false}
use Rattle.words.specs.Tab.{tab, tab_ext}
use Rattle.words.specs.RowsAt.{rows_at}
use Rattle.definition.specs.declared.Use.{Use}
use Rattle.uses.specs.Rows.{use_row}
use Rattle.job.specs.declared.Layout.{Layout}
use Rattle.job.specs.Layout.{seg_row, seg_at, next_use, job_uses, segment_of}
use Rattle.set_part.specs.declared.PartSeg.{PartSeg}
use Rattle.set_part.specs.Part.{use_bound, part_row, seg_by, marked_use, part_segs, PartOk, CountsRise, whole_part}
use Rattle.set_part.proofs.Bounds.{bound_first, bound_inner, bound_end, bound_le_end, first_le_bound}

-- a choice between equals
pub cond_same : {A : Type 0} (t : Bool) (x y : A) → (t ≡ true → x ≡ y) → cond t x y ≡ y
cond_same true x y h = h refl
cond_same false x y h = refl

module _ (W : List ℕ) (lay : Layout) where
  pub next_inner : (i : ℕ) → i + 1 < lay.segments.n → next_use W lay i ≡ (seg_at W lay (i + 1)).first
  unfolding next_use seg_at seg_row
  next_inner i h = simp (lt-ltb (i + 1) lay.segments.n h)

  -- segment i as it stands in the job
  abbrev own_row : ℕ → PartSeg
  own_row i = record {
    value = (seg_at W lay i).value;
    «from» = (seg_at W lay i).«from»;
    to = (seg_at W lay i).to;
    flags = (seg_at W lay i).flags;
    first = (seg_at W lay i).first;
    end = next_use W lay i;
  }

  -- a segment whose uses are not marked
  own_uses_lem : (K : List ℕ) (marks i : ℕ) → ((j : ℕ) → (seg_at W lay i).first ≤ j → j < next_use W lay i → get_or K (marks + j) 0 ≡ 0)
      → seg_by (marked_use K marks W lay) (own_row i) ≡ segment_of use_row W lay i
  unfolding seg_by segment_of job_uses rows_at marked_use
  own_uses_lem K marks i clear =
      ap (λ (us : List Use). record { value = (seg_at W lay i).value; «from» = (seg_at W lay i).«from»; to = (seg_at W lay i).to; flags = (seg_at W lay i).flags; uses = us })
      (tab_ext (λ j. marked_use K marks W lay j) (λ k. use_row W (lay.uses.at + (seg_at W lay i).first * 6 + k * 6)) (seg_at W lay i).first 0 (next_use W lay i - (seg_at W lay i).first)
      (λ n m.
      let e : lay.uses.at + ((seg_at W lay i).first + n) * 6 ≡ lay.uses.at + (seg_at W lay i).first * 6 + (0 + n) * 6 = omega arith in
      plain ((seg_at W lay i).first + n) (clear ((seg_at W lay i).first + n) (omega arith) (omega arith)) ∙ ap (λ (k : ℕ). use_row W k) e))
    where
      plain : (j : ℕ) → get_or K (marks + j) 0 ≡ 0 → marked_use K marks W lay j ≡ use_row W (lay.uses.at + j * 6)
      plain j e = rw e

  module _ (a b : ℕ) (h : a < b) (l : b ≤ lay.segments.n) where
    own_bound : (i : ℕ) → a ≤ i → i < b → use_bound W lay (whole_part W lay a b) i ≡ (seg_at W lay i).first
    unfolding whole_part
    own_bound i p q = go (eqb i a) refl
      where
        go : (t : Bool) → eqb i a ≡ t → use_bound W lay (whole_part W lay a b) i ≡ (seg_at W lay i).first
        go true e =
            let f = eqb-true i a e in
            ap (λ (j : ℕ). use_bound W lay (whole_part W lay a b) j) f ∙ bound_first W lay (whole_part W lay a b) ∙ ap (λ (j : ℕ). (seg_at W lay j).first) (sym f)
        go false e = let f = eqb-false i a e in bound_inner W lay (whole_part W lay a b) i (omega arith) (omega arith)

    own_next : (i : ℕ) → a ≤ i → i < b → use_bound W lay (whole_part W lay a b) (i + 1) ≡ next_use W lay i
    unfolding whole_part
    own_next i p q = go (ltb (i + 1) b) refl
      where
        go : (t : Bool) → ltb (i + 1) b ≡ t → use_bound W lay (whole_part W lay a b) (i + 1) ≡ next_use W lay i
        go true e = let f = borrow.Author.Tests.ltb-true (i + 1) b e in own_bound (i + 1) (omega arith) f ∙ sym (next_inner i (omega arith))
        go false e =
            let f = borrow.Author.Tests.ltb-false (i + 1) b e in
            let g : b - 1 ≡ i = omega arith in
            bound_end W lay (whole_part W lay a b) (i + 1) (omega arith) (omega arith) ∙ ap (λ (j : ℕ). next_use W lay j) g

    pub whole_ok : CountsRise W lay → PartOk W lay (whole_part W lay a b)
    unfolding whole_part
    whole_ok cr = record {
      order = omega arith;
      within = omega arith;
      rise = λ i p q. omega (arith, own_bound i p (omega arith), own_next i p (omega arith), cr.rise i (omega arith));
      fits = cr.within (b - 1) (omega arith);
    }

    whole_row : (i : ℕ) → a ≤ i → i < b → part_row W lay (whole_part W lay a b) i ≡ own_row i
    unfolding part_row whole_part
    whole_row i p q =
        rw (
          own_bound i p q,
          own_next i p q,
          cond_same (eqb i a) (seg_at W lay a).«from» (seg_at W lay i).«from» (λ e. ap (λ (j : ℕ). (seg_at W lay j).«from») (sym (eqb-true i a e))),
          cond_same (eqb i (b - 1)) (seg_at W lay (b - 1)).to (seg_at W lay i).to (λ e. ap (λ (j : ℕ). (seg_at W lay j).to) (sym (eqb-true i (b - 1) e))),
          cond_same (eqb i (b - 1)) (seg_at W lay (b - 1)).flags (seg_at W lay i).flags (λ e. ap (λ (j : ℕ). (seg_at W lay j).flags) (sym (eqb-true i (b - 1) e))),
          cond_same (eqb i a) (seg_at W lay a).flags (seg_at W lay i).flags (λ e. ap (λ (j : ℕ). (seg_at W lay j).flags) (sym (eqb-true i a e))),
        )

    -- its segments are the job's, where none of its uses is marked
    pub whole_segs : (K : List ℕ) (marks : ℕ) → CountsRise W lay → ((j : ℕ) → (seg_at W lay a).first ≤ j → j < next_use W lay (b - 1) → get_or K (marks + j) 0 ≡ 0)
        → part_segs K marks W lay (whole_part W lay a b) ≡ tab (λ i. segment_of use_row W lay i) a (b - a)
    unfolding part_segs whole_part
    whole_segs K marks cr clear =
        let e : b - 1 + 1 - a ≡ b - a = omega arith in
        ap (λ (n : ℕ). tab (λ i. seg_by (marked_use K marks W lay) (part_row W lay (whole_part W lay a b) i)) a n) e
        ∙ tab_ext (λ i. seg_by (marked_use K marks W lay) (part_row W lay (whole_part W lay a b) i)) (λ i. segment_of use_row W lay i) a a (b - a)
        (λ n m. ap (λ (r : PartSeg). seg_by (marked_use K marks W lay) r) (whole_row (a + n) (omega arith) (omega arith)) ∙ own_seg (a + n) (omega arith) (omega arith))
      where
        ok : PartOk W lay (whole_part W lay a b)
        ok = whole_ok cr

        own_seg : (i : ℕ) → a ≤ i → i < b → seg_by (marked_use K marks W lay) (own_row i) ≡ segment_of use_row W lay i
        own_seg i p q =
            own_uses_lem K marks i
            (λ j u v.
            clear j
            (omega (arith, first_le_bound W lay (whole_part W lay a b) ok i p (omega arith), own_bound i p q))
            (omega (arith, bound_le_end W lay (whole_part W lay a b) ok (i + 1) (omega arith) (omega arith), own_next i p q)))
