use mathlib.Core.Path.{sym, ◌∙◌}
use borrow.Author.Tests.{not-true, not-false}
use Rattle.pieces.specs.Conflict.{param_by}
use Rattle.placing.specs.Setting.{step_idle, step_maps}
use Rattle.place.proofs.conflict.map_new.Goals as goal

pub returns-then-not-leads : goal.returns-then-not-leads
returns-then-not-leads c = λ v p q. step_idle _ _ _ _ _ _ _ _ (sym c.leads.ensures ∙ not-true _ c.if-not-leads.true-raw)

pub returns : goal.returns
returns c = λ v p q. step_maps _ _ _ _ _ _ _ _ _ (sym c.leads.ensures ∙ not-false _ c.if-not-leads.false-raw) (c.map_conflict.ensures v p (param_by q))
