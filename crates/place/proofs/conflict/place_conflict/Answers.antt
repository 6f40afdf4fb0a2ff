use mathlib.Core.Path.{refl, sym, ◌∙◌}
use native.Mathlib.Omega.{arith}
use Rattle.std.specs.Prelude.{not}
use Rattle.words.specs.Words.{words_of}
use Rattle.constraints.specs.Held.{held_of}
use Rattle.placing.specs.EndEnds.{err_kept}
use Rattle.placing.specs.Kept.{weighable_kept}
use Rattle.placing.specs.Held.{class_held}
use Rattle.placing.specs.Filling.{row_within}
use Rattle.placing.specs.Way.{planned_way}
use Rattle.placing.specs.Setting.{can_decide, can_open, can_write, tells, touched, is_filling, can_finish, ends_not, ends_made}
use Rattle.place.specs.ConflictInFrame.{pieces_of}
use Rattle.place.specs.Asks.{asks_inst, asks_small, asks_groups, asks_setting, stands_setting, piece_rows, piece_measured, rows_ok, ready_then, fair_then, told_then, asks_fair}
use Rattle.place.proofs.conflict.place_conflict.Goals as goal

pub map_new-free-requires : goal.map_new-free-requires
map_new-free-requires c = let k = c.requires.1 in
    (k.ready, k.apart, k.rows, k.segments, asks_groups k)

pub overflow_mul-from : goal.overflow_mul-from
overflow_mul-from c = omega (arith, asks_inst c.requires.1)

pub overflow_add-new : goal.overflow_add-new
overflow_add-new c = omega (arith, asks_inst c.requires.1)

pub decide-p-requires : goal.decide-p-requires
decide-p-requires c = let k = c.requires.1 in
    can_decide _ _ _ _ _ k.st _ (asks_setting k c.args.x.value c.args.x.param) _ k.long

pub returns-in_err-placed : goal.returns-in_err-placed
returns-in_err-placed c = let k = c.requires.1 in
    let x = c.args.x in
    let e = c.map_new-free.ensures x.value x.pos x.param in
    λ st sd ec sane hf.
    ends_not _ _ _ _ _ _ _ _ _ _ _ _ _ e st (stands_setting k x.value x.param _ st sd.tables ec sane hf) sd.mapped _
    (c.decide-p.ensures st _ sd.tables ec hf.target (piece_measured (words_of c.args.work.now) c.args.fr.now.wl.turned _ _ _ _ x.value x.pos x.param c.use_count.ensures)) _ _ _ (sym c.placed.ensures ∙ c.in_err-placed.was)
    (err_kept _ _ c.from_residual.ensures.1)

pub make_room-at-requires : goal.make_room-at-requires
make_room-at-requires c = let k = c.requires.1 in
    let x = c.args.x in
    let K = words_of c.args.work.now in
    let t = c.args.fr.now.wl.turned in
    let ps = pieces_of c.args.fr.now c.args.work.now c.args.a c.args.b x.value x.pos x.param in
    let d = c.decide-p.ensures k.st ps k.holds k.counts k.more.0.target (piece_measured K t _ _ _ _ x.value x.pos x.param c.use_count.ensures) in
    can_open _ _ _ _ _ _ k.st _ (asks_setting k x.value x.param) (asks_small k) _ (piece_rows K t _ _ _ _ x.value x.pos x.param c.use_count.ensures) _
    (planned_way (not c.map_new-free.result) _ _ _ k.st _ d (sym c.placed.ensures ∙ c.in_ok-placed.was))

pub emit_conflict-told-requires-clause-fits : goal.emit_conflict-told-requires-clause-fits
emit_conflict-told-requires-clause-fits c = let k = c.requires.1 in
    let x = c.args.x in
    let e = c.map_new-free.ensures x.value x.pos x.param in (
      weighable_kept _ _ _ _ _ _ _ c.requires.0 (ready_then _ _ _ _ _ _ e.outside k.apart k.ready) (omega (arith, c.map_new-free)),
      rows_ok _ _ _ _ e.outside k.apart _ _ _ _ (omega (arith, c.map_new-free)) k.rows,
      omega (arith, c.make_room-at, k.long),
    )

pub emit_conflict-told-requires-clause-room : goal.emit_conflict-told-requires-clause-room
emit_conflict-told-requires-clause-room c = let k = c.requires.1 in
    let x = c.args.x in
    let K = words_of c.args.work.now in
    let t = c.args.fr.now.wl.turned in
    let ps = pieces_of c.args.fr.now c.args.work.now c.args.a c.args.b x.value x.pos x.param in
    let d = c.decide-p.ensures k.st ps k.holds k.counts k.more.0.target (piece_measured K t _ _ _ _ x.value x.pos x.param c.use_count.ensures) in
    let m = can_write _ _ _ _ _ _ k.st _ (asks_setting k x.value x.param) (asks_small k) _ (piece_rows K t _ _ _ _ x.value x.pos x.param c.use_count.ensures) _ _ _
    (planned_way (not c.map_new-free.result) _ _ _ k.st _ d (sym c.placed.ensures ∙ c.in_ok-placed.was)) (c.make_room-at.ensures k.st k.holds k.counts) in
    (omega (arith, m.0), omega (arith, c.use_count.ensures, m.1), omega (arith, c.use_count.ensures, m.2))

pub emit_conflict-told-requires-clause-fair : goal.emit_conflict-told-requires-clause-fair
emit_conflict-told-requires-clause-fair c = let k = c.requires.1 in
    let x = c.args.x in
    fair_then _ _ _ _ _ _ _ x.value x.pos x.param (c.map_new-free.ensures x.value x.pos x.param).outside k.apart _ (asks_fair k x.value x.param)

pub emit_conflict-told-requires-clause-near : goal.emit_conflict-told-requires-clause-near
emit_conflict-told-requires-clause-near c = c.no_block.ensures _

pub weigh-w-requires-clause-tables : goal.weigh-w-requires-clause-tables
weigh-w-requires-clause-tables c = let k = c.requires.1 in
    let x = c.args.x in
    let K = words_of c.args.work.now in
    let t = c.args.fr.now.wl.turned in
    let e = c.map_new-free.ensures x.value x.pos x.param in
    let ps = pieces_of c.args.fr.now c.args.work.now c.args.a c.args.b x.value x.pos x.param in
    let s = asks_setting k x.value x.param in
    let n = piece_rows K t _ _ _ _ x.value x.pos x.param c.use_count.ensures in
    let d = c.decide-p.ensures k.st ps k.holds k.counts k.more.0.target (piece_measured K t _ _ _ _ x.value x.pos x.param c.use_count.ensures) in
    let w = planned_way (not c.map_new-free.result) _ _ _ k.st _ d (sym c.placed.ensures ∙ c.in_ok-placed.was) in
    let y = told_then _ _ _ _ _ _ _ x.value x.pos x.param e.outside k.apart _ _ _ _ _ _ _ c.emit_conflict-told.ensures in (
      weighable_kept _ _ _ _ _ _ _ c.requires.0 (ready_then _ _ _ _ _ _ e.outside k.apart k.ready) (omega (arith, c.map_new-free)),
      omega (arith, k.long, c.make_room-at, c.emit_conflict-told),
      row_within _ _ _ _ _ (can_finish _ _ _ _ _ _ k.st _ s (asks_small k) _ n _ _ w (is_filling _ _ _ _ _ _ k.st _ s (asks_small k) _ n _ _ _ _ w (c.make_room-at.ensures k.st k.holds k.counts) y.written)),
    )

pub weigh-w-requires-clause-touched : goal.weigh-w-requires-clause-touched
weigh-w-requires-clause-touched c = let k = c.requires.1 in
    let x = c.args.x in
    let e = c.map_new-free.ensures x.value x.pos x.param in
    touched _ _ _ _ _ _ _ _ (asks_fair k x.value x.param) (told_then _ _ _ _ _ _ _ x.value x.pos x.param e.outside k.apart _ _ _ _ _ _ _ c.emit_conflict-told.ensures)

pub finish-requires : goal.finish-requires
finish-requires c = let k = c.requires.1 in
    let x = c.args.x in
    let K = words_of c.args.work.now in
    let t = c.args.fr.now.wl.turned in
    let e = c.map_new-free.ensures x.value x.pos x.param in
    let ps = pieces_of c.args.fr.now c.args.work.now c.args.a c.args.b x.value x.pos x.param in
    let s = asks_setting k x.value x.param in
    let n = piece_rows K t _ _ _ _ x.value x.pos x.param c.use_count.ensures in
    let d = c.decide-p.ensures k.st ps k.holds k.counts k.more.0.target (piece_measured K t _ _ _ _ x.value x.pos x.param c.use_count.ensures) in
    let w = planned_way (not c.map_new-free.result) _ _ _ k.st _ d (sym c.placed.ensures ∙ c.in_ok-placed.was) in
    let y = told_then _ _ _ _ _ _ _ x.value x.pos x.param e.outside k.apart _ _ _ _ _ _ _ c.emit_conflict-told.ensures in (
      c.requires.0.book,
      omega (arith, k.long, c.make_room-at, c.emit_conflict-told),
      can_finish _ _ _ _ _ _ k.st _ s (asks_small k) _ n _ _ w (is_filling _ _ _ _ _ _ k.st _ s (asks_small k) _ n _ _ _ _ w (c.make_room-at.ensures k.st k.holds k.counts) y.written),
    )

pub returns : goal.returns
returns c = let k = c.requires.1 in
    let x = c.args.x in
    let K = words_of c.args.work.now in
    let t = c.args.fr.now.wl.turned in
    let e = c.map_new-free.ensures x.value x.pos x.param in
    let ps = pieces_of c.args.fr.now c.args.work.now c.args.a c.args.b x.value x.pos x.param in
    let n = piece_rows K t _ _ _ _ x.value x.pos x.param c.use_count.ensures in
    let m = told_then _ _ _ _ _ _ _ x.value x.pos x.param e.outside k.apart _ _ _ _ _ _ _ c.emit_conflict-told.ensures in
    let ok = sym c.placed.ensures ∙ c.in_ok-placed.was in
    λ st sd ec sane hf.
    let s = stands_setting k x.value x.param _ st sd.tables ec sane hf in
    let d = c.decide-p.ensures st ps sd.tables ec hf.target (piece_measured K t _ _ _ _ x.value x.pos x.param c.use_count.ensures) in
    let y = is_filling _ _ _ _ _ _ st _ s (asks_small k) _ n _ _ _ _ (planned_way (not c.map_new-free.result) _ _ _ st _ d ok) (c.make_room-at.ensures st sd.tables ec) m.written in
    let w = c.weigh-w.ensures _ _ _ st ps y (tells _ _ _ _ _ _ _ _ m) in
    ends_made _ _ _ _ _ _ _ _ _ _ _ _ _ e st s sd.mapped _ d (asks_small k) _ n _ _ _ ok (c.finish.ensures.left _ st ps (held_of c.args.held) (class_held _) y w) refl
