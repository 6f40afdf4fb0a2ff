use Rattle.std.specs.Prelude.{take}
use Rattle.std.proofs.Common.{ap, ◌∙◌}
use Rattle.definition.specs.Text.{same}
use Rattle.definition.specs.JobOrder.{answered, ordered_text}
use Rattle.lines.specs.Comparing.{same_pointwise}
use Rattle.order_answer.proofs.memory.is_answer.Goals as goal

pub returns : goal.returns
unfolding ordered_text
returns c =
    c.eq.ensures
    ∙ same_pointwise c.args.text.now (take c.put_answer-n.result c.put_answer-n.new.out)
    ∙ ap (same c.args.text.now) (c.put_answer-n.ensures.is ∙ ap answered c.order_of.ensures)
