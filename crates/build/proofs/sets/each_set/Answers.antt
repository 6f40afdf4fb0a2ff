use mathlib.Core.Path.{refl, ◌∙◌}
use Rattle.placing.specs.EndEnds.{err_kept}
use Rattle.build.proofs.All.{setting_start, setting_set, setting_next, setting_stop, setting_end, set_now, onward_now}
use Rattle.build.proofs.sets.each_set.Goals as goal

pub loop-a-init : goal.loop-a-init
loop-a-init c = (setting_start _ _ _ _ _ _ _ _ _ c.requires, refl, refl)

pub set_end-b-requires : goal.set_end-b-requires
set_end-b-requires c = c.loop-a-test.true

pub build_set-requires : goal.build_set-requires
build_set-requires c = let l = c.loop-a in
    let e = c.set_end-b.ensures in
    set_now _ _ _ _ _ _ _ _ _ _ c.args.work.now l.work c.args.out.now l.out l.invariant.1 l.invariant.2
    (setting_set _ _ _ _ _ _ _ _ _ _ _ l.invariant.0 _ e.0 e.1 e.2 c.loop-a-test.true)

pub returns-in_err-c : goal.returns-in_err-c
returns-in_err-c c = let e = c.set_end-b.ensures in
    let r = c.build_set.ensures in
    setting_stop _ _ _ _ _ _ _ _ _ _ _ c.loop-a.invariant.0 _ e.0 e.1 e.2 c.loop-a-test.true _ _ _ r.ends_as _ c.in_err-c.was _ (err_kept _ _ c.from_residual.ensures.1)

pub loop-a-preserved : goal.loop-a-preserved
loop-a-preserved c = let l = c.loop-a in
    let e = c.set_end-b.ensures in
    let r = c.build_set in (
      setting_next _ _ _ _ _ _ _ _ _ _ _ l.invariant.0 _ e.0 e.1 e.2 c.loop-a-test.true _ _ _ r.ensures.ends_as _ c.in_ok-c.was
          (onward_now _ _ _ _ _ _ _ c.args.work.now l.work l.invariant.1 r.ensures.onward),
      r.auto.work ∙ l.invariant.1,
      r.auto.out ∙ l.invariant.2,
    )

pub returns : goal.returns
returns c = setting_end _ _ _ _ _ _ _ _ _ _ _ c.loop-a.invariant.0 c.loop-a-test.false _ refl
