use mathlib.Core.Path.{◌∙◌}
use Rattle.emit.proofs.Parts.{adjust_is, weight_bits}
use Rattle.emit.proofs.weight_of.Goals as goal

pub returns : goal.returns
returns c = let b = c.bits_of-value.ensures in
    weight_bits _ _ _ _ _ _ _ _ (c.word_at-k.ensures ∙ adjust_is _ _) c.class_data-data.ensures.0 c.weight-w.ensures.0 b.0 b.1
