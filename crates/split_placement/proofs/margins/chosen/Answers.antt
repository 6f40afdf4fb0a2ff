use mathlib.Core.Path.{◌∙◌}
use Rattle.split_placement.proofs.Choice.{chosen_is}
use Rattle.split_placement.proofs.margins.chosen.Goals as goal

pub returns : goal.returns
returns c = c.least.ensures.0 ∙ chosen_is _ _ _ _ c.requires.0
