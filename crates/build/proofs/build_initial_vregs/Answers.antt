use mathlib.Core.Path.{refl, ap, ◌∙◌}
use native.Mathlib.Omega.{arith}
use lib.ListN.{length}
use Rattle.build.specs.Ends.{refused_end}
use Rattle.build.proofs.Shaped.{answered_as}
use Rattle.build.proofs.Whole.{part_cleared, answered_whole, answered_off}
use Rattle.build.proofs.build_initial_vregs.Goals as goal

pub returns-in_default : goal.returns-in_default
returns-in_default c = answered_as (c.refuse.ensures ∙ ap refused_end c.number.ensures) (answered_off _ _ _ _ _ _ _ _ _ _ c.clear.ensures.zeroed c.out_layout-ol.ensures refl c.find_layout.ensures c.in_default.is)

pub build_shaped-requires : goal.build_shaped-requires
build_shaped-requires c = (
  omega arith,
  part_cleared (length c.args.out.now) _ _ _ _ _ _ _ _ c.clear.ensures.zeroed c.out_layout-ol.ensures refl c.tables_bytes-end.ensures,
)

pub returns : goal.returns
returns c = let r = c.build_shaped in
    answered_whole _ _ _ _ _ _ _ _ _ c.clear.ensures.zeroed c.out_layout-ol.ensures refl c.tables_bytes-end.ensures _ r.auto.out _ _ _ _ c.find_layout.ensures
    c.in-Some.is r.ensures
