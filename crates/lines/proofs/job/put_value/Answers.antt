use native.Mathlib.Omega.{arith}
use Rattle.lines.specs.Laws.{as_text}
use Rattle.lines.proofs.Rowing.{value_bits, value_number}
use Rattle.lines.proofs.job.put_value.Goals as goal

pub returns-then-bits : goal.returns-then-bits
returns-then-bits c = as_text 21 _ c.put_bits_field.ensures (omega arith)
    (value_bits _ _ c.if-bits.true)

pub returns-else-bits : goal.returns-else-bits
returns-else-bits c = as_text 21 _ c.put_field.ensures (omega arith)
    (value_number _ _ c.if-bits.false)
