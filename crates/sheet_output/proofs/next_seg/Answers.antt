use mathlib.Core.Path.{ap}
use native.Mathlib.Omega.{arith}
use Rattle.lines.specs.Laws.{as_text}
use Rattle.virt_regs.specs.declared.PieceRow.{PieceRow}
use Rattle.sheet_output.specs.Rows.{seg_text, seg_row_text, behind_seg, behind_seg_row}
use Rattle.sheet_output.proofs.next_seg.Goals as goal

pub returns : goal.returns
unfolding seg_text behind_seg
returns c = let p = c.piece_at-row.ensures in
    (as_text 256 _ c.put_seg-n.ensures (omega arith) (ap seg_row_text p), ap (λ (q : PieceRow). behind_seg_row q c.args.cur) p)
