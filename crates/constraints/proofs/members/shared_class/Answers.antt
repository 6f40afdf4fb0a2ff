use Rattle.virt_regs.specs.Held.{fit_registers}
use Rattle.constraints.proofs.Narrowing.{job_classes, shared_is}
use native.Mathlib.Omega.{arith}
use Rattle.constraints.proofs.members.shared_class.Goals as goal

pub returns-then-ol-n : goal.returns-then-ol-n
returns-then-ol-n c st h l = absurd (omega (arith, fit_registers h))

pub returns : goal.returns
returns c st h l = shared_is _ _ st h _ _ _ _ _ l c.class_of-c.ensures (c.common_subclass.ensures _ (rw c.classes.ensures (job_classes _ _)))
