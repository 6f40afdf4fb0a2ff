use mathlib.Core.Path.{ap, ◌∙◌}
use lib.ListN.{take}
use Rattle.definition.specs.Text.{same}
use Rattle.convert.proofs.Ways.{refused_is}
use Rattle.lines.specs.Comparing.{same_pointwise}
use Rattle.convert.proofs.memory.is_moved.Goals as goal

pub returns-in-Err : goal.returns-in-Err
returns-in-Err c = c.eq.ensures ∙ same_pointwise c.args.answer.now (take c.put_refused-n.result c.put_refused-n.new.out)
    ∙ ap (same c.args.answer.now) (refused_is _ _ _ _ _ _ _ _ c.in-Err.ensures c.number.ensures c.put_refused-n.ensures)
