use mathlib.Core.Path.{ap, ◌∙◌}
use native.Mathlib.Omega.{arith}
use Rattle.words.specs.Laws.{length_words}
use Rattle.vreg_weight.proofs.Sums.{options_are}
use Rattle.emit.proofs.Pieces.{told_none}
use Rattle.emit.proofs.Conflict.{opening_inside, turned_inside, conflict_low, conflict_few, conflict_told, count_open, near_same}
use Rattle.std.specs.Prelude.{◌≡◌, cond}
use Rattle.pieces.specs.Conflict.{open_count}
use Rattle.emit.proofs.emit_conflict.Goals as goal

pub invariant_of-by : goal.invariant_of-by
invariant_of-by c = record { weighable = c.requires.fits.0; of_job = c.options_at-options.ensures ∙ options_are _ _ }

pub conflict_row-row-requires : goal.conflict_row-row-requires
conflict_row-row-requires c = let x = c.args.x in
    let low = conflict_low _ x.value x.pos x.param _ _ _ _ _ _ c.requires.fair in
    let k : c.from-k.result ≡ open_count x.param = c.from-k.ensures ∙ count_open _ ∙ ap (λ b. cond b 1 0) c.is_some.ensures in
    (omega (arith, low), omega (arith, c.requires.room.2), omega (arith, k, c.requires.room.2))

pub emit_opening-begun-requires : goal.emit_opening-begun-requires
emit_opening-begun-requires c = let x = c.args.x in
    record {
      uses = opening_inside _ x.value x.pos x.param _ _ _ _ _ _ c.requires.fair;
      room = (omega (arith, c.put_piece, c.requires.fits.2), omega (arith, c.requires.room.1));
      near = near_same _ _ _ c.no_pieces-t.ensures.0 c.requires.near;
    }

pub emit_turned-costs-requires-clause-uses : goal.emit_turned-costs-requires-clause-uses
emit_turned-costs-requires-clause-uses c = let x = c.args.x in
    (c.requires.fits.1, turned_inside _ x.value x.pos x.param _ _ _ _ _ _ c.requires.fair c.requires.fits.1.order)

pub count_piece-requires : goal.count_piece-requires
count_piece-requires c = let x = c.args.x in
    conflict_few _ x.pos x.param _ _ _ c.conflict_row-row.result c.no_pieces-t.result c.conflict_row-row.ensures c.no_pieces-t.ensures.2 (conflict_low _ x.value x.pos x.param _ _ _ _ _ _ c.requires.fair)

pub returns : goal.returns
returns c = let x = c.args.x in
    let k : c.from-k.result ≡ open_count x.param = c.from-k.ensures ∙ count_open _ ∙ ap (λ b. cond b 1 0) c.is_some.ensures in
    conflict_told _ _ _ _ _ _ x.value x.pos x.param _ _ _ _ _ _ _ _ _ _ _ _ _ _ _ (told_none _ _ _ _ _ _ _ c.no_pieces-t.ensures c.requires.near) (omega (arith, length_words c.args.out.now, c.requires.fits.2)) c.requires.room.0 k c.conflict_row-row.ensures c.put_piece.ensures c.remat_at-remat.ensures c.emit_opening-begun.ensures c.emit_turned-costs.ensures c.count_piece.ensures
