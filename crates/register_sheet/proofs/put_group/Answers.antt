use Rattle.register_sheet.specs.Texts.{group_text_lem}
use native.Mathlib.Omega.{arith}
use Rattle.lines.specs.Laws.{then, as_text}
use Rattle.register_sheet.proofs.put_group.Goals as goal

pub returns : goal.returns
returns c = as_text 256 _ (then c.put_bytes-a.ensures (then c.put_field-b.ensures (then c.put_indices-c.ensures c.put_bytes.ensures))) (omega (arith, c.requires.1)) (group_text_lem _ _)
