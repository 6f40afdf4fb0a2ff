use mathlib.Core.Path.{ap, ◌∙◌}
use mathlib.Core.Bool.{cond}
use Rattle.steps.proofs.Read.{flag_word, put_row}
use Rattle.steps.proofs.put_turned.Goals as goal

pub returns : goal.returns
returns c = put_row _ _ _ _ _ c.args.row (c.from-has.ensures ∙ flag_word _ ∙ ap (λ b. cond b 1 0) c.is_some.ensures) c.unwrap_or-param.ensures c.put_row.ensures
