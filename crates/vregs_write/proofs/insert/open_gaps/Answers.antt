use native.Mathlib.Omega.{arith}
use Rattle.words.specs.Laws.{length_words}
use Rattle.vregs_write.specs.Ask.{ask_first, ask_long, ask_row, ask_lift}
use Rattle.vregs_write.proofs.Turns.{use_le, opened_last}
use Rattle.vregs_write.proofs.insert.open_gaps.Goals as goal

pub pieces_of-s-requires : goal.pieces_of-s-requires
pieces_of-s-requires c = omega (arith, ask_row _ _ _ _ _ _ _ c.requires, ask_long _ _ _ _ _ _ _ c.requires, length_words c.args.out.now)

pub overflow_add-p : goal.overflow_add-p
overflow_add-p c = omega (arith, c.pieces_of-s.ensures.0, ask_first _ _ _ _ _ _ _ c.requires)

pub first_use_of-u-requires : goal.first_use_of-u-requires
first_use_of-u-requires c = (omega (arith, ask_long _ _ _ _ _ _ _ c.requires, length_words c.args.out.now), omega (arith, c.pieces_of-s.ensures.0, ask_first _ _ _ _ _ _ _ c.requires), omega (arith, c.requires.segs))

pub lift-requires : goal.lift-requires
lift-requires c = (omega (arith, ask_long _ _ _ _ _ _ _ c.requires, length_words c.args.out.now), ask_lift _ _ _ _ _ _ _ c.requires _ (omega (arith, c.pieces_of-s.ensures.0, ask_first _ _ _ _ _ _ _ c.requires)))

pub open_rows-requires : goal.open_rows-requires
open_rows-requires c = (omega (arith, ask_long _ _ _ _ _ _ _ c.requires, length_words c.args.out.now, c.lift.auto.out), omega (arith, c.pieces_of-s.ensures.0, ask_first _ _ _ _ _ _ _ c.requires), use_le _ _ _ _ _ _ _ _ _ c.pieces_of-s.ensures.0 c.first_use_of-u.ensures c.requires, c.requires.segs, c.requires.uses)

pub returns : goal.returns
returns c = opened_last _ _ _ _ _ _ _ _ _ c.pieces_of-s.ensures.0 c.first_use_of-u.ensures _ _ _ c.lift.ensures c.open_rows.ensures c.requires.segs c.requires.uses
