use Rattle.register_sheet.specs.Texts.{seg_text_lem}
use native.Mathlib.Omega.{arith}
use Rattle.lines.specs.Laws.{then, as_text}
use Rattle.register_sheet.proofs.put_seg.Goals as goal

pub returns : goal.returns
returns c = as_text 256 _ (then c.put_bytes-a.ensures (then c.put_fields-b.ensures c.put_origin.ensures)) (omega arith) (seg_text_lem _ _ _ _ _)
