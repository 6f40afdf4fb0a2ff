use Rattle.job.specs.Job.{job_in}
use Rattle.constraints.proofs.Narrowing.{job_classes}
use Rattle.constraints.proofs.Admitted.{group_no, group_yes}
use Rattle.constraints.proofs.Operand.{said_some, said_none}
use Rattle.constraints.proofs.admit_group.Goals as goal

pub returns-in_err-g : goal.returns-in_err-g
returns-in_err-g c st hs b = absurd (said_none _ _ _ _ _ _ _ (c.find_group.ensures b) c.in_err-g.was)

pub returns-in_err-k : goal.returns-in_err-k
returns-in_err-k c st hs b = rw c.from_residual-in_err-k.ensures (group_no _ st c.args.held _ _ _ _ _ (c.common_subclass.ensures (job_in c.args.fr.now.job) (rw c.classes.ensures (job_classes _ _))) c.in_err-k.was)

pub returns : goal.returns
returns c st hs b =
    let s = said_some _ _ _ _ _ _ _ _ (c.find_group.ensures b) c.in_ok-g.was in
    group_yes _ st c.args.held _ _ _ _ _ (c.common_subclass.ensures (job_in c.args.fr.now.job) (rw c.classes.ensures (job_classes _ _))) _ _ _ c.in_ok-k.was (s.mapped _ hs.mapped) s.sets (c.admit_into.ensures st hs.tables)
