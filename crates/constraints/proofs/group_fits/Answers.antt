use mathlib.Core.Path.{sym, ◌∙◌}
use borrow.Author.Tests.{ne_eqb}
use Rattle.values.proofs.Twice.{never}
use Rattle.constraints.proofs.Admitted.{fits_first, fits_index, fits_mapping, fits_sets}
use Rattle.constraints.proofs.group_fits.Goals.{then-same, else-same}
use Rattle.constraints.proofs.group_fits.Goals as goal

pub returns-in_default : goal.returns-in_default
returns-in_default c = fits_first _ _ _ _ c.in_default.is

pub returns-then-mapping_fits : goal.returns-then-mapping_fits
returns-then-mapping_fits c = elim c.if-same.branch [
  | then-same w ↦ fits_sets _ _ _ _ _ c.in-Some.is _ _ w.if-same.true w.mapping_fits.ensures (sym w.value-is ∙ c.if-mapping_fits.true) c.same_sets.ensures
  | else-same w ↦ never (sym c.if-mapping_fits.true ∙ w.value-is ∙ ne_eqb _ _ w.if-same.false)
]

pub returns-else-mapping_fits : goal.returns-else-mapping_fits
returns-else-mapping_fits c = elim c.if-same.branch [
  | then-same w ↦ c.if-mapping_fits.false ∙ fits_mapping _ _ _ _ _ c.in-Some.is _ w.if-same.true w.mapping_fits.ensures (sym w.value-is ∙ c.if-mapping_fits.false)
  | else-same w ↦ w.value-is ∙ ne_eqb _ _ w.if-same.false ∙ fits_index _ _ _ _ _ c.in-Some.is w.if-same.false
]
