-- The part before a cut is scanned. Assumes nothing.
use mathlib.Core.Path.{◌≡◌, sym, ap, subst, ◌∙◌}
use Prim.Native.Nat.{ℕ, ◌-◌, ◌*◌, ◌≤◌, ◌<◌}
use native.Mathlib.Omega.{arith}
use mathlib.Core.List.{List}
use Rattle.words.specs.Tab.{tab}
use Rattle.words.specs.RowsAt.{rows_at}
use Rattle.definition.specs.declared.Inst.{Inst}
use Rattle.definition.specs.declared.RegClass.{RegClass}
use Rattle.definition.specs.declared.Use.{Use}
use Rattle.definition.specs.Types.{State}
use Rattle.definition.specs.Types as types
use Rattle.definition.specs.Cuts.{left_cut}
use Rattle.definition.specs.Admit.{cut, move, scan, through, fresh}
use Rattle.definition.specs.Place.{uses_of}
use Rattle.definition.proofs.Fits.{SegsFit}
use Rattle.hints.specs.Hints.{hint_at}
use Rattle.job.specs.declared.Layout.{Layout}
use Rattle.job.specs.Job.{job_by, job_of}
use Rattle.set_part.specs.declared.SetPart.{SetPart}
use Rattle.set_part.specs.Part.{PartOk, marked_use, part_segs}
use Rattle.set_part.proofs.Bounds.{first_le_end}
use Rattle.set_part.specs.declared.cuts.Parts.{Parts}
use Rattle.set_part.specs.Cut.{cut_part}
use Rattle.set_part.proofs.Sides.{cut_left}
use Rattle.set_part.proofs.CutsKept.{cut_sides}
use Rattle.constraints.specs.declared.Held.{Held}
use Rattle.constraints.specs.Held.{held_of}
use Rattle.scans.specs.declared.ScanAnswer.{ScanAnswer}
use Rattle.scans.specs.Answers.{scan_of}
use Rattle.steps.proofs.Run.{cut_through}
use Rattle.steps.proofs.Cut.{part_scanned}

module _ (W : List ℕ) (lay : Layout) (p : Inst) (sp : SetPart) (c : Parts) (ok : PartOk W lay sp) (lo : sp.«from».0 < 4 * p.0) (hi : 4 * p.0 < sp.to.0)
    (e : c ≡ cut_part (rows_at hint_at W lay.hints.at 3 lay.hints.n) W lay p sp) where
  pub parts_are : c ≡ cut_part (job_of W lay).hints W lay p sp
  unfolding job_of job_by
  parts_are = e

  left_ok : PartOk W lay c.left
  left_ok = subst (λ (x : Parts). PartOk W lay x.left) (sym parts_are) (cut_sides (job_of W lay).hints W lay p sp ok lo hi).left_side

  left_first : c.left.first ≡ sp.first
  left_first = ap (λ (x : Parts). x.left.first) parts_are ∙ (cut_sides (job_of W lay).hints W lay p sp ok lo hi).first

  pub front_range : (c.left.first ≤ c.left.end) × (c.left.end ≤ lay.uses.n) × (0 < lay.segments.n)
  front_range = (first_le_end W lay c.left left_ok, left_ok.fits, omega (arith, ok.within))

  pub front_held : (K : List ℕ) (marks : ℕ) (st : State) (top : RegClass) (h : types.Held) (r : ScanAnswer) → h ≡ fresh top
      → scan_of c.left.first r ≡ scan (job_of W lay) st (tab (marked_use K marks W lay) c.left.first (c.left.end - c.left.first)) h
      → SegsFit 0 (part_segs K marks W lay sp) → move (job_of W lay) st top (uses_of (part_segs K marks W lay sp)) ≡ cut p
      → scan (job_of W lay) st (uses_of (left_cut (job_of W lay).hints p (part_segs K marks W lay sp))) (fresh top) ≡ through (held_of r.held)
  front_held K marks st top h r eh er f m =
      let us : tab (marked_use K marks W lay) c.left.first (c.left.end - c.left.first) ≡ uses_of (left_cut (job_of W lay).hints p (part_segs K marks W lay sp)) =
      sym (part_scanned K marks W lay c.left left_ok)
      ∙ ap (λ (x : Parts). uses_of (part_segs K marks W lay x.left)) parts_are
      ∙ ap uses_of (sym (cut_left (job_of W lay).hints W lay p sp ok lo hi K marks)) in
      cut_through (job_of W lay) st top (part_segs K marks W lay sp) 0 p f m c.left.first r
      (er ∙ ap (λ (x : types.Held). scan (job_of W lay) st (tab (marked_use K marks W lay) c.left.first (c.left.end - c.left.first)) x) eh ∙ ap (λ (x : List Use). scan (job_of W lay) st x (fresh top)) us)

  -- where the front ends at use number e, what the uses up to e hold is what the front holds
  pub front_passed : (K : List ℕ) (marks : ℕ) (st : State) (top : RegClass) (e : ℕ) (h : Held) → c.left.end ≡ e
      → scan (job_of W lay) st (tab (marked_use K marks W lay) sp.first (e - sp.first)) (fresh top) ≡ through (held_of h)
      → scan (job_of W lay) st (uses_of (left_cut (job_of W lay).hints p (part_segs K marks W lay sp))) (fresh top) ≡ through (held_of h)
  front_passed K marks st top e h ee s =
      let us : tab (marked_use K marks W lay) c.left.first (c.left.end - c.left.first) ≡ uses_of (left_cut (job_of W lay).hints p (part_segs K marks W lay sp)) =
      sym (part_scanned K marks W lay c.left left_ok)
      ∙ ap (λ (x : Parts). uses_of (part_segs K marks W lay x.left)) parts_are
      ∙ ap uses_of (sym (cut_left (job_of W lay).hints W lay p sp ok lo hi K marks)) in
      ap (λ (x : List Use). scan (job_of W lay) st x (fresh top)) (sym us)
      ∙ ap (λ (k : ℕ). scan (job_of W lay) st (tab (marked_use K marks W lay) k (c.left.end - k)) (fresh top)) left_first
      ∙ ap (λ (k : ℕ). scan (job_of W lay) st (tab (marked_use K marks W lay) sp.first (k - sp.first)) (fresh top)) ee
      ∙ s

-- the uses of a part lie within the job's
pub part_range : (W : List ℕ) (lay : Layout) (sp : SetPart) → PartOk W lay sp → (sp.first ≤ sp.end) × (sp.end ≤ lay.uses.n) × (0 < lay.segments.n)
part_range W lay sp ok = (first_le_end W lay sp ok, ok.fits, omega (arith, ok.within))
