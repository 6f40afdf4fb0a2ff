use native.Mathlib.Omega.{arith}
use Rattle.words.specs.Laws.{length_words}
use Rattle.emit.proofs.Pieces.{own_more}
use Rattle.emit.proofs.emit_piece.Goals as goal

pub emit_uses-costs-requires : goal.emit_uses-costs-requires
emit_uses-costs-requires c = record { uses = c.requires.uses; room = (omega (arith, c.put_piece, c.requires.room.0), c.requires.room.2); near = c.requires.before.0 }

pub returns : goal.returns
returns c = own_more _ _ _ _ _ _ _ _ _ _ _ _ _ _ (omega (arith, length_words c.args.out.now, c.requires.room.0)) c.requires.room.1 c.piece_row-row.ensures c.put_piece.ensures c.remat_at-remat.ensures c.emit_uses-costs.ensures c.count_piece.ensures
