-- A step ends the part, or the part behind a cut is built by the same steps. Assumes nothing.
use native.Mathlib.Omega.{arith}
use mathlib.Core.Path.{ap, ◌∙◌}
use Rattle.std.specs.Prelude.{Ok}
use Rattle.placing.specs.EndEnds.{err_kept}
use Rattle.build_part.proofs.Behind.{step_ends, step_fails, onward, behind_ready, behind_built}
use Rattle.build_part.proofs.+build_behind.Goals as goal

pub returns-in_err-part : goal.returns-in_err-part
returns-in_err-part t c =
    let o = c.one_step in
    let both = step_fails _ _ _ _ _ _ _ _ _ _ _ _ _ _ o.ensures.stepped o.ensures.step_to o.auto.work _ c.in_err-part.was _ (err_kept _ _ c.from_residual.ensures.1) in
    record { changed = both.0; builds_to = both.1 }

pub returns-in-Over : goal.returns-in-Over
returns-in-Over t c =
    let o = c.one_step in
    let both = step_ends _ _ _ _ _ _ _ _ _ _ _ _ _ _ o.ensures.stepped o.ensures.step_to o.auto.work _ (c.in_ok-part.was ∙ ap Ok c.in-Over.is) in
    record { changed = both.0; builds_to = both.1 }

pub build_behind-requires : goal.build_behind-requires
build_behind-requires t c =
    let o = c.one_step in (
      omega (arith, c.decreases, (onward _ _ _ _ _ _ _ _ _ _ _ _ _ _ o.ensures.stepped o.ensures.step_to o.auto.work _ _ _ (c.in_ok-part.was ∙ ap Ok c.in-On.is)).less),
      behind_ready _ _ _ _ _ _ _ _ _ _ _ _ _ _ o.ensures.stepped o.ensures.step_to o.auto.work _ _ _ (c.in_ok-part.was ∙ ap Ok c.in-On.is) c.requires o.auto.out,
    )

pub returns-in-On : goal.returns-in-On
returns-in-On t c =
    let o = c.one_step in
    let b = c.build_behind in
    let both = behind_built _ _ _ _ _ _ _ _ _ _ _ _ _ _ o.ensures.stepped o.ensures.step_to o.auto.work _ _ _ (c.in_ok-part.was ∙ ap Ok c.in-On.is) _ _ _ b.ensures.changed b.ensures.builds_to in
    record { changed = both.0; builds_to = both.1 }
