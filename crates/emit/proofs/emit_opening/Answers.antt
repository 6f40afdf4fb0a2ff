use native.Mathlib.Omega.{arith}
use Rattle.words.specs.Laws.{length_words}
use Rattle.pieces.proofs.ConflictRows.{open_room}
use Rattle.emit.proofs.Use.{param_words}
use Rattle.emit.proofs.Conflict.{open_none, open_some, open_inside}
use Rattle.emit.proofs.emit_opening.Goals as goal

pub returns-in_default : goal.returns-in_default
returns-in_default c = open_none _ _ _ _ c.args.pos _ _ _ c.in_default.is c.requires.near

pub emit_use-requires : goal.emit_use-requires
emit_use-requires c = let r = open_room _ _ _ _ c.in-Some.is c.requires.room.1 in (omega (arith, r, c.requires.room.0), c.requires.near)

pub returns : goal.returns
returns c = let e = c.emit_use.ensures in
    let i = open_inside _ c.args.pos _ _ c.in-Some.is c.requires.uses in
    open_some _ _ _ _ c.args.pos _ _ _ _ _ _ c.in-Some.is (omega (arith, length_words c.args.out.now, c.requires.room.0)) c.requires.room.1 (rw c.use_base.ensures at e.0) e.1 (e.2 _ (param_words c.args.pos _) i)
