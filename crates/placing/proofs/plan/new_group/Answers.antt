use Rattle.placing.proofs.Ways.{to_lead, to_twice}
use Rattle.placing.proofs.plan.new_group.Goals as goal

pub returns-then-free : goal.returns-then-free
returns-then-free c = λ st ps t. to_lead _ st ps _ t c.if-free.true

pub returns : goal.returns
returns c = λ st ps t. to_twice _ st ps _ t c.if-free.false
