use mathlib.Core.Path.{refl, ◌∙◌}
use native.Mathlib.Omega.{arith}
use Rattle.conflicts.proofs.RoundKept.{rows_now}
use Rattle.placing.specs.EndEnds.{err_kept}
use Rattle.conflicts.proofs.Kept.{between_then, given_now, given_part}
use Rattle.conflicts.proofs.Going.{going_start, going_next, going_stop, going_end}
use Rattle.conflicts.proofs.conflicts.Goals as goal

pub loop-i-init : goal.loop-i-init
loop-i-init c = let p = c.requires in
    (going_start _ _ _ _ _ _ _ _ _ _ _ _ _ (record { ready = p.0; apart = p.1; turns = p.2; builds = p.3; segments = p.4; rows = p.5; st = p.6.0; stands = p.6.1 }), refl, refl)

pub run_end-e-requires : goal.run_end-e-requires
run_end-e-requires c = let l = c.loop-i in
    (rows_now c.args.work.now l.work _ _ _ _ _ l.invariant.1 l.invariant.0.given.rows, c.loop-i-test.true)

pub at_inst-requires : goal.at_inst-requires
at_inst-requires c = let l = c.loop-i in
    let e = c.run_end-e.ensures in
    (given_part _ _ _ _ _ _ _ _ _ _ _ _ _ (omega (arith, e.0)) e.1 (given_now _ _ _ _ _ _ _ _ _ _ c.args.work.now l.work c.args.out.now l.out l.invariant.1 l.invariant.2 l.invariant.0.given), e.0)

pub returns-in_err-k : goal.returns-in_err-k
returns-in_err-k c = let v = c.loop-i.invariant.0 in
    let e = c.run_end-e.ensures in
    let r = c.at_inst.ensures in record { between = between_then _ _ _ _ _ v.between r.rounded.between; ends_as = going_stop _ _ _ _ _ _ _ _ _ _ _ _ _ _ _ _ _ v _ e.0 e.1 e.2 _ _ _ r.rounded r.ends_as _ c.in_err-k.was _ (err_kept _ _ c.from_residual.ensures.1) }

pub loop-i-preserved : goal.loop-i-preserved
loop-i-preserved c = let l = c.loop-i in
    let e = c.run_end-e.ensures in
    let r = c.at_inst in (
      going_next _ _ _ _ _ _ _ _ _ _ _ _ _ _ _ _ _ l.invariant.0 _ e.0 e.1 e.2 _ _ _ r.ensures.rounded r.ensures.ends_as _ c.in_ok-k.was,
      r.auto.work ∙ l.invariant.1,
      r.auto.out ∙ l.invariant.2,
    )

pub returns : goal.returns
returns c = let v = c.loop-i.invariant.0 in record { between = v.between; ends_as = going_end _ _ _ _ _ _ _ _ _ _ _ _ _ _ _ _ _ v c.loop-i-test.false _ refl }
