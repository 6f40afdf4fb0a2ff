use Rattle.job.specs.Job.{job_in}
use Rattle.constraints.proofs.Narrowing.{job_classes}
use Rattle.constraints.proofs.Admitted.{class_yes, class_no}
use Rattle.constraints.proofs.admit_class.Goals as goal

pub returns-in_err-class : goal.returns-in_err-class
returns-in_err-class c = rw c.from_residual.ensures (class_no _ c.args.held _ _ (c.common_subclass.ensures (job_in c.args.job.now) (rw c.classes.ensures (job_classes _ _))) c.in_err-class.was)

pub returns : goal.returns
returns c = class_yes _ c.args.held _ _ (c.common_subclass.ensures (job_in c.args.job.now) (rw c.classes.ensures (job_classes _ _))) _ c.in_ok-class.was
