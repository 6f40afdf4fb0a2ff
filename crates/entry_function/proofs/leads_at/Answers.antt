use mathlib.Core.Path.{◌∙◌}
use Rattle.entry_function.proofs.Tests.{leads_no, leads_by}
use Rattle.entry_function.proofs.leads_at.Goals as goal

pub returns-then-n-leader : goal.returns-then-n-leader
returns-then-n-leader c = leads_no _ _ _ _ _ c.word_at-leader.ensures (cc) c.if-n-leader.true

pub returns : goal.returns
returns c = c.eq.ensures ∙ leads_by _ _ _ _ _ _ c.word_at-leader.ensures (cc) c.if-n-leader.false (rw c.values.ensures.0 at c.set_for_value.ensures)
