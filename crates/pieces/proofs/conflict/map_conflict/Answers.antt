use mathlib.Core.Path.{refl, ◌∙◌}
use native.Mathlib.Omega.{arith}
use Rattle.pieces.proofs.MapsGoing.{run_start, run_outside, run_next, run_stop, run_end, ready_run}
use Rattle.pieces.proofs.ConflictGoing.{row_kept, known_kept, backed_row, maps_conflict}
use Rattle.pieces.proofs.conflict.map_conflict.Goals as goal

pub loop-i-init : goal.loop-i-init
loop-i-init c = (run_start _ _ _ _ _ _ _ _, refl)

pub turned_use-u-requires : goal.turned_use-u-requires
turned_use-u-requires c = let t = c.loop-i-test.true in
    let o = run_outside _ _ _ _ _ _ _ _ _ _ c.loop-i.invariant.0 in
    (omega (arith, t, c.requires.2.within, c.loop-i.invariant.1), known_kept _ _ _ _ o c.requires.1 _ _ _ _ c.requires.2 (omega arith) t)

pub map_use-requires : goal.map_use-requires
map_use-requires c = let o = run_outside _ _ _ _ _ _ _ _ _ _ c.loop-i.invariant.0 in
    let r = ready_run _ _ _ _ _ _ _ _ _ _ _ c.loop-i.invariant.0 c.requires.1 c.loop-i.invariant.1 c.requires.0 in
    (r, backed_row _ _ _ _ _ _ _ _ r c.requires.3 (known_kept _ _ _ _ o c.requires.1 _ _ _ _ c.requires.2 (omega arith) c.loop-i-test.true) c.turned_use-u.ensures)

pub returns-then-not-map_use : goal.returns-then-not-map_use
returns-then-not-map_use c = let o = run_outside _ _ _ _ _ _ _ _ _ _ c.loop-i.invariant.0 in
    maps_conflict _ _ _ _ _ _ _ _ _
    (run_stop _ _ _ _ _ _ _ _ _ _ c.loop-i.invariant.0 c.loop-i-test.true _ (c.turned_use-u.ensures ∙ row_kept _ _ _ _ o c.requires.1 _ _) _ _ c.map_use.ensures c.if-not-map_use.true-raw)

pub loop-i-preserved : goal.loop-i-preserved
loop-i-preserved c = let o = run_outside _ _ _ _ _ _ _ _ _ _ c.loop-i.invariant.0 in (
  run_next _ _ _ _ _ _ _ _ _ _ c.loop-i.invariant.0 c.loop-i-test.true _ (c.turned_use-u.ensures ∙ row_kept _ _ _ _ o c.requires.1 _ _) _ _ c.map_use.ensures c.if-not-map_use.false-raw,
  omega (arith, c.loop-i.invariant.1, c.map_use),
)

pub returns : goal.returns
returns c = maps_conflict _ _ _ _ _ _ _ _ _ (run_end _ _ _ _ _ _ _ _ _ _ c.loop-i.invariant.0 c.loop-i-test.false)
