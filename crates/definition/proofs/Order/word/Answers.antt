use Rattle.std.proofs.Common.{sym, ap}
use Rattle.definition.specs.declared.Order.{Order}
use Rattle.definition.specs.Text.{bytes}
use Rattle.definition.specs.JobOrder.{order_word}
use Rattle.definition.proofs.Order.word.Goals as goal

pub returns-in-Before : goal.returns-in-Before
returns-in-Before c = ap (λ (o : Order). bytes (order_word o)) (sym c.in-Before.is)

pub returns-in-Same : goal.returns-in-Same
returns-in-Same c = ap (λ (o : Order). bytes (order_word o)) (sym c.in-Same.is)

pub returns-in-After : goal.returns-in-After
returns-in-After c = ap (λ (o : Order). bytes (order_word o)) (sym c.in-After.is)
