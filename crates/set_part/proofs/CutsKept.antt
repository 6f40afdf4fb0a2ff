-- Both sides of a cut are well formed, and their uses meet. Assumes nothing.
use mathlib.Core.Path.{◌≡◌, refl, sym, ap, ◌∙◌}
use mathlib.Core.Bool.{Bool, true, false}
use mathlib.Core.List.{List}
use Prim.Native.Nat.{ℕ, ◌+◌, ◌-◌, ◌*◌, ◌≤◌, ◌<◌}
use native.Mathlib.Omega.{arith}
use lib.Dec.{ltb}
use borrow.Author.Tests.{ltb-false}
use Rattle.definition.specs.declared.Inst.{Inst}
use Rattle.definition.specs.declared.LiveRangePoint.{LiveRangePoint}
use Rattle.definition.specs.declared.UseFlags.{UseFlags}
use Rattle.definition.specs.declared.Hint.{Hint}
use Rattle.definition.specs.Types.{point}
use Rattle.uses.specs.Rows.{use_row}
use Rattle.hints.specs.Flags.{left_flags, right_flags}
use Rattle.job.specs.declared.Layout.{Layout}
use Rattle.set_part.specs.declared.SetPart.{SetPart}
use Rattle.set_part.specs.declared.PartSeg.{PartSeg}
use Rattle.set_part.specs.Part.{use_bound, part_row, PartOk}
use Rattle.set_part.proofs.Bounds.{bound_le_end}
use Rattle.set_part.proofs.Alike.{row_first, row_end}
use Rattle.set_part.specs.declared.cuts.Parts.{Parts}
use Rattle.set_part.specs.Cut.{left_part, right_part, mid_use, first_past, cut_across, cut_between, cut_at, cut_part}
use Rattle.set_part.proofs.Past.{Past, past_first}
use Rattle.set_part.proofs.Rows.{left_ok, right_ok}
use Rattle.set_part.proofs.Lists.{mid_in}
use Rattle.set_part.proofs.CutsRead.{row_behind}

-- the sides c of the part sp: they begin and end as it does, and the right one's uses go on where the left one's end
pub record Sides (W : List ℕ) (lay : Layout) (sp : SetPart) (c : Parts) : Type 0 where
  pub left_side : PartOk W lay c.left
  pub right_side : PartOk W lay c.right
  pub opens : c.left.«from» ≡ sp.«from»
  pub closes : c.right.to ≡ sp.to
  pub first : c.left.first ≡ sp.first
  pub meet : c.left.end ≡ c.right.first
  pub end : c.right.end ≡ sp.end

-- of a part up to segment i and a part from segment k on
sides_of : (W : List ℕ) (lay : Layout) (sp : SetPart) (i k : ℕ) (t q : LiveRangePoint) (f g : UseFlags) (e n : ℕ)
    → PartOk W lay (left_part sp i t f e) → PartOk W lay (right_part sp k q g n) → e ≡ n → Sides W lay sp (record { left = left_part sp i t f e; right = right_part sp k q g n })
unfolding left_part right_part
sides_of W lay sp i k t q f g e n l r m = record { left_side = l; right_side = r; opens = refl; closes = refl; first = refl; meet = m; end = refl }

module _ (hs : List Hint) (W : List ℕ) (lay : Layout) (p : Inst) (sp : SetPart) (ok : PartOk W lay sp) (k : ℕ) (lo : sp.seg ≤ k) (hi : k ≤ sp.last) where
  abbrev row : PartSeg
  row = part_row W lay sp k

  rise : row.first ≤ row.end
  rise = omega (arith, row_first W lay sp k, row_end W lay sp k, ok.rise k lo hi)

  within : use_bound W lay sp (k + 1) ≤ lay.uses.n
  within = omega (arith, bound_le_end W lay sp ok (k + 1) (omega arith) (omega arith), ok.fits)

  mid : (row.first ≤ mid_use W lay p row) × (mid_use W lay p row ≤ row.end)
  mid = mid_in W lay p (λ j. use_row W (lay.uses.at + j * 6)) (λ j. refl) row rise

  across_sides : Sides W lay sp (cut_across hs W lay p sp k row)
  unfolding cut_across
  across_sides =
      sides_of W lay sp k k (point (4 * p.0)) (point (4 * p.0)) (left_flags hs p row.value row.«from» row.flags) (right_flags hs p row.value row.to row.flags)
      (mid_use W lay p row) (mid_use W lay p row)
      (left_ok W lay sp k lo hi (point (4 * p.0)) (left_flags hs p row.value row.«from» row.flags) (mid_use W lay p row) ok
      (omega (arith, mid.0, row_first W lay sp k)) (omega (arith, mid.1, row_end W lay sp k, within)))
      (right_ok W lay sp k lo hi (point (4 * p.0)) (right_flags hs p row.value row.to row.flags) (mid_use W lay p row) ok (omega (arith, mid.1, row_end W lay sp k)))
      refl

  between_sides : sp.seg + 1 ≤ k → Sides W lay sp (cut_between sp k (part_row W lay sp (k - 1)) row)
  unfolding cut_between
  between_sides b =
      let o = part_row W lay sp (k - 1) in
      let j : k - 1 + 1 ≡ k = omega arith in
      let e : o.end ≡ use_bound W lay sp k = row_end W lay sp (k - 1) ∙ ap (λ (i : ℕ). use_bound W lay sp i) j in
      let u = ok.rise k lo hi in
      let v : use_bound W lay sp (k - 1) ≤ use_bound W lay sp (k - 1 + 1) = ok.rise (k - 1) (omega arith) (omega arith) in
      sides_of W lay sp (k - 1) k o.to row.«from» o.flags row.flags o.end row.first
      (left_ok W lay sp (k - 1) (omega arith) (omega arith) o.to o.flags o.end ok (omega (arith, row_end W lay sp (k - 1))) (omega (arith, within)))
      (right_ok W lay sp k lo hi row.«from» row.flags row.first ok (omega (arith, row_first W lay sp k)))
      (e ∙ sym (row_first W lay sp k))

pub cut_sides : (hs : List Hint) (W : List ℕ) (lay : Layout) (p : Inst) (sp : SetPart) → PartOk W lay sp → sp.«from».0 < 4 * p.0 → 4 * p.0 < sp.to.0
    → Sides W lay sp (cut_part hs W lay p sp)
unfolding cut_part cut_at
cut_sides hs W lay p sp ok open' end' = go (first_past W lay sp (4 * p.0)) (past_first W lay sp (4 * p.0) ok.order end')
  where
    go : (k : ℕ) → Past W lay sp (4 * p.0) k → Sides W lay sp (cut_at hs W lay p sp k)
    go k at = by (ltb (part_row W lay sp k).«from».0 (4 * p.0)) refl
      where
        by : (t : Bool) → ltb (part_row W lay sp k).«from».0 (4 * p.0) ≡ t → Sides W lay sp (cut_at hs W lay p sp k)
        by true e = rw e (across_sides hs W lay p sp ok k at.behind at.within)
        by false e =
            rw e
            (between_sides hs W lay p sp ok k at.behind at.within
            (row_behind W lay sp (4 * p.0) k (part_row W lay sp k) refl at.behind open' (ltb-false (part_row W lay sp k).«from».0 (4 * p.0) e)))
