use Rattle.register_sheet.specs.Texts.{vreg_text_lem}
use native.Mathlib.Omega.{arith}
use Rattle.lines.specs.Laws.{then, as_text}
use Rattle.register_sheet.proofs.put_vreg.Goals as goal

pub returns : goal.returns
returns c = as_text 256 _ (then c.vreg_head-a.ensures c.vreg_tail.ensures) (omega arith) (vreg_text_lem _ _ _ _ _ _ _)
