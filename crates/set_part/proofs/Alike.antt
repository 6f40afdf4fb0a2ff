-- Parts whose uses are the same. Assumes nothing.
use mathlib.Core.Path.{◌≡◌, refl, ap}
use mathlib.Core.List.{List}
use Prim.Native.Nat.{ℕ, ◌+◌, ◌-◌, ◌≤◌, ◌<◌}
use native.Mathlib.Omega.{arith}
use lib.ListN.{get_or}
use Rattle.words.specs.Tab.{tab, tab_ext}
use Rattle.definition.specs.declared.Use.{Use}
use Rattle.job.specs.declared.Layout.{Layout}
use Rattle.set_part.specs.declared.SetPart.{SetPart}
use Rattle.set_part.specs.declared.PartSeg.{PartSeg}
use Rattle.set_part.specs.Part.{use_bound, part_row, seg_by, marked_use, part_segs, PartOk}
use Rattle.set_part.proofs.Bounds.{bound_le_end, first_le_bound, bounds_rise}

-- a segment by two functions that agree on its uses
pub seg_alike : (f g : ℕ → Use) (r : PartSeg) → ((j : ℕ) → r.first ≤ j → j < r.end → f j ≡ g j) → seg_by f r ≡ seg_by g r
unfolding seg_by
seg_alike f g r h =
    ap (λ (us : List Use). record { value = r.value; «from» = r.«from»; to = r.to; flags = r.flags; uses = us })
    (tab_ext f g r.first r.first (r.end - r.first) (λ n l. h (r.first + n) (omega arith) (omega arith)))

-- the bounds of a row
pub row_first : (W : List ℕ) (lay : Layout) (sp : SetPart) (i : ℕ) → (part_row W lay sp i).first ≡ use_bound W lay sp i
unfolding part_row
row_first W lay sp i = refl

pub row_end : (W : List ℕ) (lay : Layout) (sp : SetPart) (i : ℕ) → (part_row W lay sp i).end ≡ use_bound W lay sp (i + 1)
unfolding part_row
row_end W lay sp i = refl

-- segments i to i + k - 1 by two functions that agree on their uses
pub segs_alike : (W : List ℕ) (lay : Layout) (sp : SetPart) (f g : ℕ → Use) → PartOk W lay sp → (i k : ℕ) → sp.seg ≤ i → i + k ≤ sp.last + 1
    → ((j : ℕ) → use_bound W lay sp i ≤ j → j < use_bound W lay sp (i + k) → f j ≡ g j)
    → tab (λ j. seg_by f (part_row W lay sp j)) i k ≡ tab (λ j. seg_by g (part_row W lay sp j)) i k
segs_alike W lay sp f g ok i k h l same =
    tab_ext (λ j. seg_by f (part_row W lay sp j)) (λ j. seg_by g (part_row W lay sp j)) i i k (λ n m. seg_alike f g (part_row W lay sp (i + n)) (inside n m))
  where
    inside : (n : ℕ) → n < k → (j : ℕ) → (part_row W lay sp (i + n)).first ≤ j → j < (part_row W lay sp (i + n)).end → f j ≡ g j
    inside n m j a b =
        same j
        (omega (arith, bounds_rise W lay sp ok i (i + n) h (omega arith) (omega arith), row_first W lay sp (i + n)))
        (omega (arith, bounds_rise W lay sp ok (i + n + 1) (i + k) (omega arith) (omega arith) (omega arith), row_end W lay sp (i + n)))

-- a part under two tables of marks
pub part_alike : (K K' : List ℕ) (marks : ℕ) (W : List ℕ) (lay : Layout) (sp : SetPart) → PartOk W lay sp
    → ((j : ℕ) → sp.first ≤ j → j < sp.end → marked_use K marks W lay j ≡ marked_use K' marks W lay j) → part_segs K marks W lay sp ≡ part_segs K' marks W lay sp
unfolding part_segs
part_alike K K' marks W lay sp ok same =
    let o = ok.order in
    segs_alike W lay sp (marked_use K marks W lay) (marked_use K' marks W lay) ok sp.seg (sp.last + 1 - sp.seg) (omega arith) (omega arith)
    (λ j a b.
    same j (omega (arith, first_le_bound W lay sp ok sp.seg (omega arith) (omega arith)))
    (omega (arith, bound_le_end W lay sp ok (sp.seg + (sp.last + 1 - sp.seg)) (omega arith) (omega arith))))

-- nothing but the marks of its own uses counts
pub part_words : (K K' : List ℕ) (marks : ℕ) (W : List ℕ) (lay : Layout) (sp : SetPart) → PartOk W lay sp
    → ((j : ℕ) → sp.first ≤ j → j < sp.end → get_or K (marks + j) 0 ≡ get_or K' (marks + j) 0) → part_segs K marks W lay sp ≡ part_segs K' marks W lay sp
unfolding marked_use
part_words K K' marks W lay sp ok same = part_alike K K' marks W lay sp ok (λ j a b. rw (same j a b))
