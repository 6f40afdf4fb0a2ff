use native.Mathlib.Omega.{arith}
use Rattle.lines.specs.Laws.{then, as_text}
use Rattle.lines.proofs.Rowing.{more_field, more_none}
use Rattle.lines.proofs.job.put_tail.Goals as goal

pub returns-in-Some : goal.returns-in-Some
returns-in-Some c =
    as_text 22 _ (then c.put_field-a.ensures c.put_bytes.ensures) (omega arith) (more_field _ _ c.in-Some.is)

pub returns-in-None : goal.returns-in-None
returns-in-None c = as_text 22 _ c.put_bytes-in-None.ensures (omega arith) (more_none _ c.in-None.is)
