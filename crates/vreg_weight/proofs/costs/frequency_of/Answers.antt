use Rattle.vreg_weight.proofs.Reading.{frequency_is}
use Rattle.vreg_weight.proofs.costs.frequency_of.Goals as goal

pub invariant_of-result : goal.invariant_of-result
invariant_of-result c = record { plain = (frequency_is _ _ _ c.float_of-value.ensures.0 c.bits_at.ensures c.requires.1).1 }
