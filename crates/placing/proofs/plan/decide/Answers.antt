use mathlib.Core.Path.{sym, ◌∙◌}
use Rattle.placing.proofs.Ways.{to_stop, to_way, to_full}
use Rattle.placing.proofs.plan.decide.Goals as goal

pub returns-then-is_stop : goal.returns-then-is_stop
returns-then-is_stop c = λ st ps h ec t m. to_stop _ _ st ps c.args.held.now _ (c.way-p.ensures st ps h t m) (sym c.is_stop.ensures ∙ c.if-is_stop.true)

pub returns-then-has_room : goal.returns-then-has_room
returns-then-has_room c = λ st ps h ec t m.
    to_way _ _ st ps c.args.held.now _ (c.way-p.ensures st ps h t m) _ _ c.registers_more-more.ensures c.groups_more.ensures _ (c.has_room.ensures st ps ec m.pieces m.uses) (sym c.is_stop.ensures ∙ c.if-is_stop.false) c.if-has_room.true

pub returns : goal.returns
returns c = λ st ps h ec t m.
    to_full _ _ st ps c.args.held.now _ (c.way-p.ensures st ps h t m) _ _ c.registers_more-more.ensures c.groups_more.ensures _ (c.has_room.ensures st ps ec m.pieces m.uses) (sym c.is_stop.ensures ∙ c.if-is_stop.false) c.if-has_room.false
