use Rattle.register_sheet.specs.Texts.{end_text}
use native.Mathlib.Omega.{arith}
use Rattle.lines.specs.Laws.{then, as_text}
use Rattle.register_sheet.proofs.put_end.Goals as goal

pub returns : goal.returns
returns c = as_text 256 _ (then c.put_bytes-a.ensures (then c.put_fields-b.ensures c.put_bytes.ensures)) (omega arith) (end_text _ _)
