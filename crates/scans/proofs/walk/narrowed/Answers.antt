use mathlib.Core.Path.{sym, ◌∙◌}
use Rattle.scans.proofs.Admitting.{narrows_none, narrows_same, narrows_some}
use Rattle.scans.proofs.walk.narrowed.Goals as goal

pub returns-in_err-class : goal.returns-in_err-class
returns-in_err-class c =
    rw c.from_residual.ensures (narrows_none _ _ c.requires _ _ c.mask_of.ensures _ c.lowest_common.ensures c.in_err-class.was)

pub returns-then-eq : goal.returns-then-eq
returns-then-eq c =
    narrows_same _ _ c.requires _ _ c.mask_of.ensures _ c.lowest_common.ensures _ c.in_ok-class.was (sym c.eq.ensures ∙ c.if-eq.true)

pub returns : goal.returns
returns c =
    narrows_some _ _ c.requires _ _ c.mask_of.ensures _ c.lowest_common.ensures _ c.in_ok-class.was c.mask_of-mask.ensures
