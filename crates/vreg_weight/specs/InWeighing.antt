-- The job by which pieces are weighed. Assumes nothing.
use Rattle.definition.specs.Types.{Job}
use Rattle.job.specs.Job.{job_in}
use Rattle.vreg_weight.specs.declared.weighing.Weighing.{Weighing}

abbrev pub weighed_job : Weighing → Job
weighed_job by = job_in by.fr.now.job
