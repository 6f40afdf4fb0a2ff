use mathlib.Core.Path.{refl}
use native.Mathlib.Omega.{arith}
use Rattle.lines.specs.Laws.{then, as_text}
use Rattle.lines.specs.Rows.{line_text}
use Rattle.lines.proofs.job.put_record.Goals as goal

pub returns : goal.returns
unfolding line_text
returns c = as_text 248 _
    (then (as_text 7 _ c.put_bytes-w.ensures c.word.ensures.short c.word.ensures.is)
    (then c.put_row-end.ensures c.put_tail.ensures))
    (omega arith) refl
