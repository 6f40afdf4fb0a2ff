use mathlib.Core.Path.{refl, sym, ◌∙◌}
use native.Mathlib.Omega.{arith}
use Rattle.std.specs.Prelude.{not}
use Rattle.words.specs.Words.{words_of}
use Rattle.set_part.proofs.Bounds.{first_le_end}
use Rattle.constraints.specs.Held.{held_of}
use Rattle.placing.specs.EndEnds.{err_kept}
use Rattle.placing.specs.Kept.{weighable}
use Rattle.placing.specs.Held.{class_held}
use Rattle.placing.specs.Filling.{row_within}
use Rattle.placing.specs.Way.{planned_way}
use Rattle.placing.specs.Setting.{can_decide, can_open, can_write, tells, touched, is_filling, can_finish, ends_not, ends_made}
use Rattle.place.specs.PartInFrame.{new_pieces}
use Rattle.place.proofs.Rows.{part_measured, part_rows, asked_groups, asked_small, asked_setting, standing_setting, ready_then, fair_then, told_then}
use Rattle.place.proofs.part.place_part.Goals as goal

pub map_new-free-requires : goal.map_new-free-requires
map_new-free-requires c = let a = c.requires in
    (a.ready, a.apart, a.part, asked_groups a)

pub overflow_sub-new-2 : goal.overflow_sub-new-2
overflow_sub-new-2 c = first_le_end _ _ _ c.requires.part

pub decide-p-requires : goal.decide-p-requires
decide-p-requires c = let a = c.requires in
    can_decide _ _ _ _ _ a.st _ (asked_setting a) _ a.long

pub returns-in_err-placed : goal.returns-in_err-placed
returns-in_err-placed c = let a = c.requires in
    λ st q hf f.
    ends_not _ _ _ _ _ _ _ _ _ _ _ _ _ c.map_new-free.ensures st (standing_setting st _ q hf f) q.stands.mapped _
    (c.decide-p.ensures st _ q.stands.tables q.counts hf.target (part_measured (words_of c.args.work.now) c.args.fr.now.wl.marks _ _ _ a.part)) _ _ _ (sym c.placed.ensures ∙ c.in_err-placed.was)
    (err_kept _ _ c.from_residual.ensures.1)

pub make_room-at-requires : goal.make_room-at-requires
make_room-at-requires c = let a = c.requires in
    let K = words_of c.args.work.now in
    let m = c.args.fr.now.wl.marks in
    let d = c.decide-p.ensures a.st (new_pieces c.args.fr.now c.args.work.now c.args.sp) a.holds a.counts a.fits.target (part_measured K m _ _ _ a.part) in
    can_open _ _ _ _ _ _ a.st _ (asked_setting a) (asked_small a) _ (part_rows K m _ _ _ a.part _ (c.hint_in_part.ensures K m)) _ (planned_way (not c.map_new-free.result) _ _ _ a.st _ d (sym c.placed.ensures ∙ c.in_ok-placed.was))

pub emit_part-told-requires-clause-fits : goal.emit_part-told-requires-clause-fits
emit_part-told-requires-clause-fits c = let a = c.requires in
    let r = ready_then _ _ _ _ _ _ c.map_new-free.ensures.outside a.apart a.ready in
    (weighable _ _ _ _ r a.book, a.part, r.marks, omega (arith, a.long, c.make_room-at))

pub emit_part-told-requires-clause-room : goal.emit_part-told-requires-clause-room
emit_part-told-requires-clause-room c = let a = c.requires in
    let K = words_of c.args.work.now in
    let m = c.args.fr.now.wl.marks in
    let d = c.decide-p.ensures a.st (new_pieces c.args.fr.now c.args.work.now c.args.sp) a.holds a.counts a.fits.target (part_measured K m _ _ _ a.part) in
    can_write _ _ _ _ _ _ a.st _ (asked_setting a) (asked_small a) _ (part_rows K m _ _ _ a.part _ (c.hint_in_part.ensures K m)) _ _ _
    (planned_way (not c.map_new-free.result) _ _ _ a.st _ d (sym c.placed.ensures ∙ c.in_ok-placed.was)) (c.make_room-at.ensures a.st a.holds a.counts)

pub emit_part-told-requires-clause-fair : goal.emit_part-told-requires-clause-fair
emit_part-told-requires-clause-fair c = let a = c.requires in
    fair_then _ _ _ _ _ _ _ c.map_new-free.ensures.outside a.apart a.fair

pub emit_part-told-requires-clause-near : goal.emit_part-told-requires-clause-near
emit_part-told-requires-clause-near c = c.no_block.ensures _

pub weigh-w-requires-clause-tables : goal.weigh-w-requires-clause-tables
weigh-w-requires-clause-tables c = let a = c.requires in
    let K = words_of c.args.work.now in
    let m = c.args.fr.now.wl.marks in
    let x = c.map_new-free.ensures.outside in
    let s = asked_setting a in
    let n = part_rows K m _ _ _ a.part _ (c.hint_in_part.ensures K m) in
    let d = c.decide-p.ensures a.st (new_pieces c.args.fr.now c.args.work.now c.args.sp) a.holds a.counts a.fits.target (part_measured K m _ _ _ a.part) in
    let w = planned_way (not c.map_new-free.result) _ _ _ a.st _ d (sym c.placed.ensures ∙ c.in_ok-placed.was) in
    let t = told_then _ _ _ _ _ _ _ _ _ _ _ _ _ x a.apart c.emit_part-told.ensures in
    let f = is_filling _ _ _ _ _ _ a.st _ s (asked_small a) _ n _ _ _ _ w (c.make_room-at.ensures a.st a.holds a.counts) t.written in (
      weighable _ _ _ _ (ready_then _ _ _ _ _ _ x a.apart a.ready) a.book,
      omega (arith, a.long, c.make_room-at, c.emit_part-told),
      row_within _ _ _ _ _ (can_finish _ _ _ _ _ _ a.st _ s (asked_small a) _ n _ _ w f),
    )

pub weigh-w-requires-clause-touched : goal.weigh-w-requires-clause-touched
weigh-w-requires-clause-touched c = let a = c.requires in
    touched _ _ _ _ _ _ _ _ a.fair (told_then _ _ _ _ _ _ _ _ _ _ _ _ _ c.map_new-free.ensures.outside a.apart c.emit_part-told.ensures)

pub finish-requires : goal.finish-requires
finish-requires c = let a = c.requires in
    let K = words_of c.args.work.now in
    let m = c.args.fr.now.wl.marks in
    let s = asked_setting a in
    let n = part_rows K m _ _ _ a.part _ (c.hint_in_part.ensures K m) in
    let d = c.decide-p.ensures a.st (new_pieces c.args.fr.now c.args.work.now c.args.sp) a.holds a.counts a.fits.target (part_measured K m _ _ _ a.part) in
    let w = planned_way (not c.map_new-free.result) _ _ _ a.st _ d (sym c.placed.ensures ∙ c.in_ok-placed.was) in
    let t = told_then _ _ _ _ _ _ _ _ _ _ _ _ _ c.map_new-free.ensures.outside a.apart c.emit_part-told.ensures in (
      a.book,
      omega (arith, a.long, c.make_room-at, c.emit_part-told),
      can_finish _ _ _ _ _ _ a.st _ s (asked_small a) _ n _ _ w (is_filling _ _ _ _ _ _ a.st _ s (asked_small a) _ n _ _ _ _ w (c.make_room-at.ensures a.st a.holds a.counts) t.written),
    )

pub returns : goal.returns
returns c = let a = c.requires in
    let K = words_of c.args.work.now in
    let m = c.args.fr.now.wl.marks in
    let ps = new_pieces c.args.fr.now c.args.work.now c.args.sp in
    let n = part_rows K m _ _ _ a.part _ (c.hint_in_part.ensures K m) in
    let t = told_then _ _ _ _ _ _ _ _ _ _ _ _ _ c.map_new-free.ensures.outside a.apart c.emit_part-told.ensures in
    let ok = sym c.placed.ensures ∙ c.in_ok-placed.was in
    λ st q hf f.
    let s = standing_setting st ps q hf f in
    let d = c.decide-p.ensures st ps q.stands.tables q.counts hf.target (part_measured K m _ _ _ a.part) in
    let x = is_filling _ _ _ _ _ _ st _ s (asked_small a) _ n _ _ _ _ (planned_way (not c.map_new-free.result) _ _ _ st _ d ok) (c.make_room-at.ensures st q.stands.tables q.counts) t.written in
    let w = c.weigh-w.ensures _ _ _ st ps x (tells _ _ _ _ _ _ _ _ t) in
    ends_made _ _ _ _ _ _ _ _ _ _ _ _ _ c.map_new-free.ensures st s q.stands.mapped _ d (asked_small a) _ n _ _ _ ok
    (c.finish.ensures.left _ st ps (held_of c.args.held.now) (class_held _) x w) refl
