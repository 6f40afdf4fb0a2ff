-- Each way through the functions of a cut. Assumes nothing.
use mathlib.Core.Path.{◌≡◌, refl, sym, ap, ◌∙◌}
use mathlib.Core.Bool.{Bool, true, false}
use mathlib.Core.List.{List}
use Prim.Native.Nat.{ℕ, ◌+◌, ◌-◌, ◌*◌, ◌≤◌, ◌<◌}
use native.Mathlib.Omega.{arith}
use lib.Dec.{ltb, eqb}
use borrow.Author.Tests.{lt-ltb, le-ltb}
use Rattle.definition.specs.declared.Inst.{Inst}
use Rattle.definition.specs.declared.Hint.{Hint}
use Rattle.job.specs.declared.Layout.{Layout}
use Rattle.set_part.specs.declared.SetPart.{SetPart}
use Rattle.set_part.specs.declared.PartSeg.{PartSeg}
use Rattle.set_part.specs.Part.{part_row, PartOk}
use Rattle.set_part.proofs.Bounds.{bound_le_end}
use Rattle.set_part.proofs.Alike.{row_first, row_end}
use Rattle.set_part.specs.declared.cuts.Parts.{Parts}
use Rattle.set_part.specs.Cut.{first_past, cut_across, cut_between, cut_at, cut_part}
use Rattle.set_part.proofs.Past.{past_first}

module _ (hs : List Hint) (W : List ℕ) (lay : Layout) (p : Inst) (sp : SetPart) (k : ℕ) (row : PartSeg) (r : Parts)
    (ek : k ≡ first_past W lay sp (4 * p.0)) (er : row ≡ part_row W lay sp k) where
  pub cut_across_read : row.«from».0 < 4 * p.0 → r ≡ cut_across hs W lay p sp k row → r ≡ cut_part hs W lay p sp
  unfolding cut_part cut_at
  cut_across_read h e =
      let t : ltb (part_row W lay sp k).«from».0 (4 * p.0) ≡ true = ap (λ (x : PartSeg). ltb x.«from».0 (4 * p.0)) (sym er) ∙ lt-ltb row.«from».0 (4 * p.0) h in
      rw (← ek, t) (e ∙ ap (λ (x : PartSeg). cut_across hs W lay p sp k x) er)

  pub cut_between_read : (o : PartSeg) → o ≡ part_row W lay sp (k - 1) → 4 * p.0 ≤ row.«from».0 → r ≡ cut_between sp k o row → r ≡ cut_part hs W lay p sp
  unfolding cut_part cut_at
  cut_between_read o eo h e =
      let t : ltb (part_row W lay sp k).«from».0 (4 * p.0) ≡ false = ap (λ (x : PartSeg). ltb x.«from».0 (4 * p.0)) (sym er) ∙ le-ltb row.«from».0 (4 * p.0) h in
      rw (← ek, t) (e ∙ ap (λ (x : PartSeg). cut_between sp k x row) eo ∙ ap (λ (x : PartSeg). cut_between sp k (part_row W lay sp (k - 1)) x) er)

-- what the code asks of segment k
pub row_fits : (W : List ℕ) (lay : Layout) (sp : SetPart) (k : ℕ) (row : PartSeg) → PartOk W lay sp → sp.seg ≤ k → k ≤ sp.last → row ≡ part_row W lay sp k
    → (row.first ≤ row.end) × (row.end ≤ lay.uses.n)
row_fits W lay sp k row ok h l e =
    let a = row_first W lay sp k in
    let b = row_end W lay sp k in
    rw e (omega (arith, a, b, ok.rise k h l), omega (arith, b, bound_le_end W lay sp ok (k + 1) (omega arith) (omega arith), ok.fits))

pub row_past : (W : List ℕ) (lay : Layout) (sp : SetPart) (q k : ℕ) (row : PartSeg) → PartOk W lay sp → q < sp.to.0 → k ≡ first_past W lay sp q → row ≡ part_row W lay sp k → q < row.to.0
row_past W lay sp q k row ok h ek er = rw (er, ek) (past_first W lay sp q ok.order h).past

-- a cut that is not across segment k has a segment before it
pub row_behind : (W : List ℕ) (lay : Layout) (sp : SetPart) (q k : ℕ) (row : PartSeg) → row ≡ part_row W lay sp k → sp.seg ≤ k → sp.«from».0 < q → q ≤ row.«from».0 → sp.seg + 1 ≤ k
unfolding part_row
row_behind W lay sp q k row e h f g = go (eqb k sp.seg) refl
  where
    go : (t : Bool) → eqb k sp.seg ≡ t → sp.seg + 1 ≤ k
    go true u = absurd (let z : row.«from».0 ≡ sp.«from».0 = ap (λ (x : PartSeg). x.«from».0) e ∙ simp u in omega arith)
    go false u = let v = borrow.Author.Tests.eqb-false k sp.seg u in omega arith
