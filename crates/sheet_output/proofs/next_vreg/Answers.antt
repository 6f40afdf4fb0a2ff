use mathlib.Core.Path.{ap}
use native.Mathlib.Omega.{arith}
use Rattle.lines.specs.Laws.{as_text}
use Rattle.virt_regs.specs.declared.RegisterRow.{RegisterRow}
use Rattle.sheet_output.specs.Rows.{vreg_text, vreg_row_text, behind_vreg, behind_vreg_row}
use Rattle.sheet_output.proofs.next_vreg.Goals as goal

pub returns : goal.returns
unfolding vreg_text behind_vreg
returns c = let a = c.args in
    let p = c.register_row-row.ensures in
    (as_text 256 _ c.put_vreg-n.ensures (omega arith) (ap (vreg_row_text a.cur.regs) p), ap (λ (q : RegisterRow). behind_vreg_row q a.cur) p)
