use mathlib.Core.Path.{refl, ◌∙◌}
use native.Mathlib.Omega.{arith}
use Rattle.cut_moves.proofs.Rows.{put_first, put_next, put_end}
use Rattle.cut_moves.proofs.put_moves.Goals as goal

pub loop-i-init : goal.loop-i-init
loop-i-init c = (refl, put_first _ _ _ _ _ _ _ _ c.requires.6)

pub loop-i-preserved : goal.loop-i-preserved
loop-i-preserved c = let r = c.put_move-k in
    let q = c.requires in (
      r.auto.list ∙ c.loop-i.invariant.0,
      put_next c.loop-i.invariant.1 _ _ _ _ q.4 q.5 c.loop-i-test.true (omega arith) c.steps-steps.ensures
          r.ensures.0 r.ensures.1,
    )

pub returns : goal.returns
returns c = put_end c.loop-i.invariant.1 _ c.loop-i-test.false (omega arith)
