use mathlib.Core.Path.{sym, ◌∙◌}
use native.Mathlib.Omega.{arith}
use Rattle.words.specs.Laws.{length_words}
use Rattle.constraints.proofs.Operand.{found_known, said_nothing}
use Rattle.pieces.proofs.Operand.{maps_found}
use Rattle.pieces.proofs.maps.map_operand.Goals as goal

pub map_at-requires : goal.map_at-requires
map_at-requires c = omega (arith, found_known _ c.args.fr.now.job.lay c.args.p _ _ _ c.find_operand.ensures c.in-Some.is, c.requires.0.mapping)

pub returns-in-Some : goal.returns-in-Some
returns-in-Some c = let f = c.find_operand.ensures in
    let q = c.in-Some.is in
    maps_found _ _ c.args.fr.now.job.lay c.args.fr.now.wl c.args.p _ _ _ c.requires.0.single (sym f ∙ q) _ _ (omega (arith, found_known _ c.args.fr.now.job.lay c.args.p _ _ _ f q, c.requires.0.mapping, length_words c.args.work.now)) c.map_at.ensures

pub returns-in-None : goal.returns-in-None
returns-in-None c = absurd (said_nothing _ c.args.fr.now.job.lay c.args.p _ _ c.find_operand.ensures c.in-None.is c.requires.1)
