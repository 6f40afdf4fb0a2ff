-- The row of a segment of a part, and how many pieces and uses a part has. Assumes nothing.
use mathlib.Core.Path.{◌≡◌, refl, sym, ap, ◌∙◌}
use mathlib.Core.List.{List, [], ◌∷◌, ◌++◌}
use Prim.Native.Nat.{ℕ, suc, ◌+◌, ◌-◌, ◌≤◌}
use native.Mathlib.Omega.{arith}
use lib.ListN.{length}
use Rattle.words.specs.Tab.{tab, length_tab}
use Rattle.definition.specs.declared.Use.{Use}
use Rattle.definition.specs.declared.Origin.TheVariants.{Own}
use Rattle.definition.specs.Types.{Segment, Piece}
use Rattle.definition.specs.Lines.{flags_number}
use Rattle.definition.specs.Build.{as_own}
use Rattle.definition.specs.Place.{uses_of, segs_of, uses_of_pieces}
use Rattle.job.specs.declared.Layout.{Layout}
use Rattle.set_part.specs.declared.SetPart.{SetPart}
use Rattle.set_part.specs.declared.PartSeg.{PartSeg}
use Rattle.set_part.specs.Part.{part_row, seg_by, part_segs, PartOk}
use Rattle.set_part.proofs.Bounds.{first_le_bound, bound_le_end}
use Rattle.set_part.proofs.Alike.{row_first, row_end}
use Rattle.set_part.proofs.Uses.{part_count, part_length}
use Rattle.virt_regs.specs.Encoding.{piece_words, each_piece}
use Rattle.virt_regs.specs.Counting.{count_uses_of}
use Rattle.pieces.specs.Rows.{row_of}

-- ---- rows

-- the words of an own piece's row
pub row_words : (f : ℕ → Use) (s : PartSeg) (n : ℕ) → piece_words (row_of s n) ≡ each_piece n (record { origin = Own; seg = seg_by f s })
unfolding row_of seg_by
row_words f s n = ap (λ (k : ℕ). piece_words (record { value = s.value; «from» = s.«from»; to = s.to; flags = flags_number s.flags; origin = 0; first = n; uses = k })) (sym (length_tab f s.first (s.end - s.first)))

pub own_snoc : (ss : List Segment) (s : Segment) → as_own (ss ++ (s ∷ [])) ≡ as_own ss ++ (record { origin = Own; seg = s } ∷ [])
own_snoc [] s = refl
own_snoc (t ∷ ss) s = ap (λ (l : List Piece). record { origin = Own; seg = t } ∷ l) (own_snoc ss s)

pub own_length : (ss : List Segment) → length (as_own ss) ≡ length ss
own_length [] = refl
own_length (s ∷ ss) = ap suc (own_length ss)

pub own_segs : (ss : List Segment) → segs_of (as_own ss) ≡ ss
own_segs [] = refl
own_segs (s ∷ ss) = ap (λ (l : List Segment). s ∷ l) (own_segs ss)

pub own_uses_lem : (ss : List Segment) → uses_of_pieces (as_own ss) ≡ length (uses_of ss)
own_uses_lem ss = count_uses_of (as_own ss) ∙ ap (λ (l : List Segment). length (uses_of l)) (own_segs ss)

-- segments seg to i - 1 of a part, by a function that gives the uses
unfoldable pub segs_to : (ℕ → Use) → List ℕ → Layout → SetPart → ℕ → List Segment
segs_to f W lay sp i = tab (λ j. seg_by f (part_row W lay sp j)) sp.seg (i - sp.seg)

-- what the row of segment i needs: its uses do not fall, and lie among those of the part
pub row_bounds : (W : List ℕ) (lay : Layout) (sp : SetPart) (i : ℕ) (s : PartSeg) → PartOk W lay sp → sp.seg ≤ i → i ≤ sp.last → s ≡ part_row W lay sp i
    → (sp.first ≤ s.first) × (s.first ≤ s.end) × (s.end ≤ sp.end)
row_bounds W lay sp i s ok lo hi e =
    rw e (
      omega (arith, row_first W lay sp i, first_le_bound W lay sp ok i lo (omega arith)),
      omega (arith, row_first W lay sp i, row_end W lay sp i, ok.rise i lo hi),
      omega (arith, row_end W lay sp i, bound_le_end W lay sp ok (i + 1) (omega arith) (omega arith)),
    )

-- ---- how many there are

pub count_pieces_of : (K : List ℕ) (marks : ℕ) (W : List ℕ) (lay : Layout) (sp : SetPart) → length (as_own (part_segs K marks W lay sp)) ≡ sp.last + 1 - sp.seg
count_pieces_of K marks W lay sp = own_length (part_segs K marks W lay sp) ∙ part_length K marks W lay sp

pub count_part_uses : (K : List ℕ) (marks : ℕ) (W : List ℕ) (lay : Layout) (sp : SetPart) → PartOk W lay sp → uses_of_pieces (as_own (part_segs K marks W lay sp)) ≡ sp.end - sp.first
count_part_uses K marks W lay sp ok = own_uses_lem (part_segs K marks W lay sp) ∙ part_count K marks W lay sp ok
