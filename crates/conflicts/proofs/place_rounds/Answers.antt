use mathlib.Core.Path.{refl, sym, ◌∙◌}
use native.Mathlib.Omega.{arith}
use Rattle.conflicts.proofs.RoundKept.{rows_now}
use Rattle.placing.specs.EndEnds.{err_kept}
use Rattle.conflicts.proofs.Kept.{rounded_then, given_now}
use Rattle.conflicts.proofs.Rounding.{rounding_start, rounding_next, rounding_stop, rounding_end}
use Rattle.conflicts.proofs.place_rounds.Goals as goal

pub loop-i-init : goal.loop-i-init
loop-i-init c = (rounding_start _ _ _ _ _ _ _ _ _ _ _ _ _ _ _ c.requires.0, refl, refl)

pub place_round-requires : goal.place_round-requires
place_round-requires c = let l = c.loop-i in
    (given_now _ _ _ _ _ _ _ _ _ _ c.args.work.now l.work c.args.out.now l.out l.invariant.1 l.invariant.2 l.invariant.0.given, c.loop-i-test.true, c.requires.1)

pub returns-in_err-r : goal.returns-in_err-r
returns-in_err-r c = let v = c.loop-i.invariant.0 in
    let r = c.place_round in record { rounded = rounded_then _ _ _ _ _ _ v.rounded r.ensures.rounded; ends_as = rounding_stop _ _ _ _ _ _ _ _ _ _ _ _ _ _ _ _ _ _ _ v c.loop-i-test.true _ _ _ r.ensures.round_as _ c.in_err-r.was _ (err_kept _ _ c.from_residual.ensures.1) }

pub loop-i-smaller : goal.loop-i-smaller
loop-i-smaller c = let r = c.in_ok-r.ensures.onto_next in
    omega (arith, c.loop-i-test.true, r.0, r.1)

pub loop-i-preserved : goal.loop-i-preserved
loop-i-preserved c = let l = c.loop-i in
    let r = c.place_round in
    let e = c.in_ok-r.ensures.onto_next in
    let kw = r.auto.work ∙ l.invariant.1 in (
      rounding_next _ _ _ _ _ _ _ _ _ _ _ _ _ _ _ _ _ _ _ l.invariant.0 c.loop-i-test.true _ _ _ r.ensures.round_as _ c.in_ok-r.was e.0 e.1 r.ensures.rounded (rows_now r.new.work c.args.work.now _ _ _ _ _ (sym kw) e.2),
      kw,
      r.auto.out ∙ l.invariant.2,
    )

pub returns : goal.returns
returns c = let v = c.loop-i.invariant.0 in record { rounded = v.rounded; ends_as = rounding_end _ _ _ _ _ _ _ _ _ _ _ _ _ _ _ _ _ _ _ v c.loop-i-test.false _ refl }
