-- All uses of a part are the uses from its first number up to its end. Assumes nothing.
use mathlib.Core.Path.{◌≡◌, sym, ap, ◌∙◌}
use mathlib.Core.List.{List, ◌++◌}
use Prim.Native.Nat.{ℕ, zero, suc, ◌+◌, ◌-◌, ◌≤◌, ◌<◌}
use native.Mathlib.Nat.{add-zero}
use native.Mathlib.Omega.{arith}
use lib.ListN.{length}
use Rattle.words.specs.Tab.{tab, length_tab, tab_append, get_or_tab}
use Rattle.definition.specs.declared.Use.{Use}
use Rattle.definition.specs.Admit.{no_use, use_at}
use Rattle.definition.specs.Place.{uses_of}
use Rattle.job.specs.declared.Layout.{Layout}
use Rattle.set_part.specs.declared.SetPart.{SetPart}
use Rattle.set_part.specs.Part.{use_bound, part_row, seg_by, marked_use, part_segs, PartOk}
use Rattle.set_part.proofs.Bounds.{bound_first, bound_end, bounds_rise}

-- two runs that meet
tab_meet : {A : Type 0} (f : ℕ → A) (a b c : ℕ) → a ≤ b → b ≤ c → tab f a (b - a) ++ tab f b (c - b) ≡ tab f a (c - a)
tab_meet f a b c h l =
    let e : c - a ≡ (b - a) + (c - b) = omega arith in
    let g : a + (b - a) ≡ b = omega arith in
    sym (ap (λ (n : ℕ). tab f a n) e ∙ tab_append f a (b - a) (c - b) ∙ ap (λ (n : ℕ). tab f a (b - a) ++ tab f n (c - b)) g)

module _ (W : List ℕ) (lay : Layout) (sp : SetPart) (ok : PartOk W lay sp) (f : ℕ → Use) where
  -- the uses of k segments from i on
  pub uses_from : (k i : ℕ) → sp.seg ≤ i → i + k ≤ sp.last + 1
      → uses_of (tab (λ j. seg_by f (part_row W lay sp j)) i k) ≡ tab f (use_bound W lay sp i) (use_bound W lay sp (i + k) - use_bound W lay sp i)
  unfolding uses_of seg_by part_row
  uses_from zero i h l = let e : use_bound W lay sp i - use_bound W lay sp i ≡ 0 = omega arith in rw (add-zero i, e)
  uses_from (suc k) i h l =
      let e : i + 1 + k ≡ i + suc k = omega arith in
      ap (λ (us : List Use). tab f (use_bound W lay sp i) (use_bound W lay sp (i + 1) - use_bound W lay sp i) ++ us) (uses_from k (i + 1) (omega arith) (omega arith))
      ∙ tab_meet f (use_bound W lay sp i) (use_bound W lay sp (i + 1)) (use_bound W lay sp (i + 1 + k)) (ok.rise i h (omega arith)) (bounds_rise W lay sp ok (i + 1) (i + 1 + k) (omega arith) (omega arith) (omega arith))
      ∙ ap (λ (n : ℕ). tab f (use_bound W lay sp i) (use_bound W lay sp n - use_bound W lay sp i)) e

pub part_uses : (K : List ℕ) (marks : ℕ) (W : List ℕ) (lay : Layout) (sp : SetPart) → PartOk W lay sp
    → uses_of (part_segs K marks W lay sp) ≡ tab (marked_use K marks W lay) sp.first (sp.end - sp.first)
unfolding part_segs
part_uses K marks W lay sp ok =
    let o = ok.order in
    let e : sp.seg + (sp.last + 1 - sp.seg) ≡ sp.last + 1 = omega arith in
    uses_from W lay sp ok (marked_use K marks W lay) (sp.last + 1 - sp.seg) sp.seg (omega arith) (omega arith)
    ∙ rw (e, bound_first W lay sp, bound_end W lay sp (sp.last + 1) (omega arith) (omega arith))

-- how many they are, and use n of them
pub part_count : (K : List ℕ) (marks : ℕ) (W : List ℕ) (lay : Layout) (sp : SetPart) → PartOk W lay sp → length (uses_of (part_segs K marks W lay sp)) ≡ sp.end - sp.first
part_count K marks W lay sp ok = ap length (part_uses K marks W lay sp ok) ∙ length_tab (marked_use K marks W lay) sp.first (sp.end - sp.first)

pub part_use : (K : List ℕ) (marks : ℕ) (W : List ℕ) (lay : Layout) (sp : SetPart) (n : ℕ) → PartOk W lay sp → sp.first + n < sp.end
    → use_at (uses_of (part_segs K marks W lay sp)) n ≡ marked_use K marks W lay (sp.first + n)
part_use K marks W lay sp n ok h =
    ap (λ (us : List Use). use_at us n) (part_uses K marks W lay sp ok) ∙ get_or_tab (marked_use K marks W lay) sp.first (sp.end - sp.first) n no_use (omega arith)

-- how many segments there are, and segment i of them
pub part_length : (K : List ℕ) (marks : ℕ) (W : List ℕ) (lay : Layout) (sp : SetPart) → length (part_segs K marks W lay sp) ≡ sp.last + 1 - sp.seg
unfolding part_segs
part_length K marks W lay sp = length_tab (λ i. seg_by (marked_use K marks W lay) (part_row W lay sp i)) sp.seg (sp.last + 1 - sp.seg)
