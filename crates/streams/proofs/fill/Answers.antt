use Rattle.std.proofs.Common.{refl, ◌∙◌}
use Rattle.streams.proofs.Fills.{part_long, length_back, filling_next}
use Rattle.streams.proofs.fill.Goals as goal

pub loop-got-preserved : goal.loop-got-preserved
loop-got-preserved g c = let k = part_long c.loop-got.got c.loop-got.buf c.read.new.buf c.read.auto.buf in (
  length_back _ _ _ c.read.new.buf c.loop-got.invariant.1.within refl k ∙ c.loop-got.invariant.0,
  filling_next _ _ _ _ _ _ _ _ _ c.loop-got.invariant.1 refl k _ c.in-Ok.n-test.1 (rw c.in-Ok.is at c.read.ensures),
)
