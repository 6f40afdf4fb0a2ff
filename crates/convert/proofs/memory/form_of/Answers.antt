use mathlib.Core.Path.{◌∙◌}
use Rattle.convert.proofs.Ways.{form_is}
use Rattle.convert.proofs.memory.form_of.Goals as goal

pub returns : goal.returns
returns c = c.is_second.ensures ∙ form_is _ _ _ _ c.feed_sheet-cur.ensures.leads
