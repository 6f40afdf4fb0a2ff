use mathlib.Core.Path.{refl, ap}
use Prim.Native.Nat.{◌/◌}
use Rattle.placing.specs.EndEnds.{err_kept}
use Rattle.build_part.proofs.Parts.{over_ok}
use Rattle.build_part.proofs.Ways.{step_halt, next_taken, next_halts, next_asked, next_known, next_over, next_on, next_stops}
use Rattle.build_part.proofs.Turned.{ready_turned, after_turns}
use Rattle.build_part.proofs.one_step.Goals as goal

pub turn_uses-t-requires : goal.turn_uses-t-requires
turn_uses-t-requires c = let g = c.requires in (g.laid, g.builds, (g.state, g.stands.stands))

pub returns-in-Err : goal.returns-in-Err
returns-in-Err c =
    let t = c.turn_uses-t in
    let long = ap (λ k. k / 4) t.auto.work in
    let g = ready_turned c.requires t.ensures.turning _ long in
    let both =
    after_turns t.ensures.turning _ long _ _ _ _ _
    (step_halt g _ c.args.set _ (next_halts g _ c.args.set _ c.next_part.ensures _ c.in-Err.is) _ refl) in
    record { stepped = both.0; step_to = both.1 }

pub place_part-requires : goal.place_part-requires
place_part-requires c =
    let t = c.turn_uses-t in
    let g = ready_turned c.requires t.ensures.turning _ (ap (λ k. k / 4) t.auto.work) in
    next_asked g _ c.args.set _ _ _ (next_taken g _ c.args.set _ c.next_part.ensures _ c.in-Ok.is)

pub returns-in_err-counts : goal.returns-in_err-counts
returns-in_err-counts c =
    let t = c.turn_uses-t in
    let long = ap (λ k. k / 4) t.auto.work in
    let g = ready_turned c.requires t.ensures.turning _ long in
    let both =
    after_turns t.ensures.turning _ long _ _ _ _ _
    (next_stops g _ _ _ _ _ _ _ c.place_part.ensures _ (next_taken g _ c.args.set _ c.next_part.ensures _ c.in-Ok.is)
    _ c.in_err-counts.was _ (err_kept _ _ c.from_residual.ensures.1)) in
    record { stepped = both.0; step_to = both.1 }

-- the part behind the cut is left
pub returns-in-Some : goal.returns-in-Some
returns-in-Some c =
    let t = c.turn_uses-t in
    let long = ap (λ k. k / 4) t.auto.work in
    let g = ready_turned c.requires t.ensures.turning _ long in
    let next = next_known g _ c.args.set _ _ _ (next_taken g _ c.args.set _ c.next_part.ensures _ c.in-Ok.is) _ c.in-Some.is in
    let both = after_turns t.ensures.turning _ long _ _ _ _ _ (next_on g _ _ _ _ _ _ _ c.place_part.ensures _ next _ c.in_ok-counts.was) in
    record { stepped = both.0; step_to = both.1 }

-- all is placed
pub returns-in-None : goal.returns-in-None
returns-in-None c =
    let t = c.turn_uses-t in
    let long = ap (λ k. k / 4) t.auto.work in
    let g = ready_turned c.requires t.ensures.turning _ long in
    let next = next_known g _ c.args.set _ _ _ (next_taken g _ c.args.set _ c.next_part.ensures _ c.in-Ok.is) _ c.in-None.is in
    let both =
    after_turns t.ensures.turning _ long _ _ _ _ _
    (next_over g _ _ _ _ _ _ _ c.place_part.ensures next _ (over_ok _ _ _ c.in_ok-counts.was)) in
    record { stepped = both.0; step_to = both.1 }
