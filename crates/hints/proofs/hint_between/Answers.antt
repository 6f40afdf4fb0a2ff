use Rattle.hints.proofs.Steps.{found_none, found_other, found_same}
use Rattle.hints.proofs.hint_between.Goals as goal

pub returns-then-rows-i : goal.returns-then-rows-i
returns-then-rows-i c = found_none _ _ _ _ _ _ _ _ c.args.hints.now.sorted c.outgoing.ensures.0 c.first_hint-i.ensures.0 c.if-rows-i.true

pub returns-else-eq : goal.returns-else-eq
returns-else-eq c = found_other _ _ _ _ _ _ _ _ c.args.hints.now.sorted c.outgoing.ensures.0 c.first_hint-i.ensures.0 _ c.if-rows-i.false (rw c.row_at.ensures.0 at c.hint_at-h.ensures) _ c.eq.ensures c.if-eq.false

pub returns-then-eq : goal.returns-then-eq
returns-then-eq c = found_same _ _ _ _ _ _ _ _ c.args.hints.now.sorted c.outgoing.ensures.0 c.first_hint-i.ensures.0 _ _ _ c.if-rows-i.false (rw c.row_at.ensures.0 at c.hint_at-h.ensures) _ c.eq.ensures c.if-eq.true c.key.ensures c.outgoing-then-eq.ensures.0
