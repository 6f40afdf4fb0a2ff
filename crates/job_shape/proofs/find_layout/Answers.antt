use Rattle.job_shape.proofs.Formed.{too_short, other_length, exact_fits, exact}
use Rattle.job_shape.proofs.find_layout.Goals as goal

pub returns-then-job-lt56 : goal.returns-then-job-lt56
returns-then-job-lt56 c = too_short _ c.if-job-lt56.true

pub returns-then-job-lay : goal.returns-then-job-lay
returns-then-job-lay c = other_length _ _ c.if-job-lt56.false c.layout_of-lay.ensures.0 c.if-job-lay.true

pub invariant_of-job : goal.invariant_of-job
invariant_of-job c = record { fits = exact_fits _ _ c.if-job-lt56.false c.layout_of-lay.ensures.0 c.if-job-lay.false }

pub returns : goal.returns
returns c = exact _ _ c.if-job-lt56.false c.layout_of-lay.ensures.0 _ c.if-job-lay.false c.tables_ok.ensures _ c.then_some.ensures
