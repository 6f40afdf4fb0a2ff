use mathlib.Core.Path.{refl, ◌∙◌}
use native.Mathlib.Omega.{arith}
use Rattle.pieces.proofs.Kept.{marked_kept, backed_marked}
use Rattle.pieces.proofs.MapsGoing.{run_start, run_outside, run_next, run_stop, run_end, ready_run, maps_part}
use Rattle.pieces.proofs.maps.map_part.Goals as goal

pub loop-i-init : goal.loop-i-init
loop-i-init c = (run_start _ _ _ _ _ _ _ _, refl)

pub map_use-requires : goal.map_use-requires
map_use-requires c = let r = ready_run _ _ _ _ _ _ _ _ _ _ _ c.loop-i.invariant.0 c.requires.1 c.loop-i.invariant.1 c.requires.0 in
    (r, backed_marked _ _ _ _ _ _ _ _ r (omega (arith, c.requires.2.within)) (omega (arith, c.loop-i-test.true, c.requires.2.fits)) c.marked_use-u.ensures)

pub returns-then-not-map_use : goal.returns-then-not-map_use
returns-then-not-map_use c = let o = run_outside _ _ _ _ _ _ _ _ _ _ c.loop-i.invariant.0 in
    maps_part _ _ _ _ _ _ _ _ c.requires.2
    (run_stop _ _ _ _ _ _ _ _ _ _ c.loop-i.invariant.0 c.loop-i-test.true _ (c.marked_use-u.ensures ∙ marked_kept _ _ _ _ o c.requires.1 _ _) _ _ c.map_use.ensures c.if-not-map_use.true-raw)

pub loop-i-preserved : goal.loop-i-preserved
loop-i-preserved c = let o = run_outside _ _ _ _ _ _ _ _ _ _ c.loop-i.invariant.0 in (
  run_next _ _ _ _ _ _ _ _ _ _ c.loop-i.invariant.0 c.loop-i-test.true _ (c.marked_use-u.ensures ∙ marked_kept _ _ _ _ o c.requires.1 _ _) _ _ c.map_use.ensures c.if-not-map_use.false-raw,
  omega (arith, c.loop-i.invariant.1, c.map_use),
)

pub returns : goal.returns
returns c = maps_part _ _ _ _ _ _ _ _ c.requires.2 (run_end _ _ _ _ _ _ _ _ _ _ c.loop-i.invariant.0 c.loop-i-test.false)
