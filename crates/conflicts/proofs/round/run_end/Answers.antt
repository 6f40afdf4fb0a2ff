use native.Mathlib.Omega.{arith}
use mathlib.Core.Path.{sym, ◌∙◌}
use borrow.Author.Tests.{not-true}
use Rattle.conflicts.proofs.Runs.{run_stop, run_done}
use Rattle.conflicts.proofs.round.run_end.Goals as goal

pub returns-then-ne : goal.returns-then-ne
returns-then-ne c = run_stop _ _ _ _ _ _ _ _ c.loop-e.invariant _ c.turned_use-u.ensures (not-true _ (sym c.ne.ensures ∙ c.if-ne.true))

pub returns : goal.returns
returns c = run_done _ _ _ _ _ _ _ _ c.loop-e.invariant c.loop-e-test.false (omega arith)
