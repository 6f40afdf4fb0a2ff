use mathlib.Core.Path.{sym}
use mathlib.Core.Bool.{false≢true}
use native.Mathlib.Omega.{arith}
use borrow.Author.Rules.{rules}
use Rattle.job_pages.proofs.Fills.{next, filled}
use Rattle.job_pages.proofs.fill.Goals as goal

pub loop-page-preserved : goal.loop-page-preserved
loop-page-preserved c = next c.loop-page.invariant c.put_next-page.ensures (omega arith) (search rules)

pub returns-in_default : goal.returns-in_default
returns-in_default c = filled c.loop-page.invariant
    (λ q. absurd (false≢true (sym (rw c.in_default.is at q))))

pub returns : goal.returns
returns c = filled c.loop-page.invariant (λ q. c.loop-page-test.false)
