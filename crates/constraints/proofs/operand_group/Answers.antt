use mathlib.Core.Path.{sym, ap, ◌∙◌}
use native.Mathlib.Omega.{arith}
use Rattle.definition.specs.Types.{vrgroup}
use Rattle.constraints.proofs.Places.{mapped_is, group_read}
use Rattle.constraints.proofs.Operand.{group_known, operand_says}
use Rattle.constraints.proofs.operand_group.Goals as goal

pub value_sets-requires : goal.value_sets-requires
value_sets-requires c = let g = group_known _ c.args.fr.now.job.lay _ _ c.requires.1 c.operand_at-o.ensures c.requires.0.grouped in
    rw c.values.ensures.1 (omega (arith, g, c.requires.0.fits.vgroups), c.requires.0.width _ g)

pub returns : goal.returns
returns c = operand_says _ _ _ _ c.requires.1 c.operand_at-o.ensures _ _ _ _ c.requires.0.grouped (sym c.word_at-w.ensures ∙ group_read _ _ _ c.number_in.ensures (mapped_is _ _ _ c.map.ensures.cases (λ x y l. ap vrgroup l))) (rw (c.values.ensures.0, c.values.ensures.1) at c.value_sets.ensures)
