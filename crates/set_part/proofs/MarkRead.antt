-- The first use of the segment that a use belongs to. Assumes nothing.
use mathlib.Core.Path.{◌≡◌}
use mathlib.Core.List.{List}
use Prim.Native.Nat.{ℕ, ◌≤◌, ◌<◌}
use native.Mathlib.Omega.{arith}
use Rattle.job.specs.declared.Layout.{Layout}
use Rattle.set_part.specs.declared.SetPart.{SetPart}
use Rattle.set_part.specs.declared.PartSeg.{PartSeg}
use Rattle.set_part.specs.Part.{part_row, PartOk}
use Rattle.set_part.proofs.Alike.{row_first}
use Rattle.set_part.specs.Turned.{holder}
use Rattle.set_part.proofs.Holder.{holder_holds}

-- the first use of the segment that holds use number c is a use of the job
pub head_within : (W : List ℕ) (lay : Layout) (sp : SetPart) (c k : ℕ) (r : PartSeg) → PartOk W lay sp → sp.first ≤ c → c < sp.end → k ≡ holder W lay sp c → r ≡ part_row W lay sp k
    → r.first < lay.uses.n
head_within W lay sp c k r ok lo hi ek er =
    let w = holder_holds W lay sp c ok.order lo hi in
    rw (er, ek) (omega (arith, row_first W lay sp (holder W lay sp c), w.after, ok.fits))
