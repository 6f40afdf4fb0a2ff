use mathlib.Core.Path.{sym, ◌∙◌}
use borrow.Author.Tests.{not-false}
use Rattle.placing.specs.Setting.{step_maps}
use Rattle.place.proofs.Rows.{maps_own}
use Rattle.place.proofs.part.map_new.Goals as goal

pub returns : goal.returns
returns c = step_maps _ _ _ _ _ _ _ _ _ (sym c.leads.ensures ∙ not-false _ c.if-not-leads.false-raw) (maps_own _ _ _ _ _ _ _ _ c.map_part.ensures)
