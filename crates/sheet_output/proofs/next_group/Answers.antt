use mathlib.Core.Path.{refl, ◌∙◌}
use Rattle.sheet_output.proofs.Words.{members_is}
use native.Mathlib.Omega.{arith}
use lib.ListN.{take}
use Rattle.lines.specs.Laws.{as_text}
use Rattle.register_sheet.specs.Typed.{group_line}
use Rattle.sheet_output.specs.Rows.{group_text}
use Rattle.sheet_output.proofs.next_group.Goals as goal

pub returns : goal.returns
unfolding group_text
returns c = let n = rw c.group_base.ensures at c.word_at-size.ensures in
    let p = (rw c.group_base.ensures at c.row-places.ensures) ∙ members_is _ _ in
    (as_text 256 _ c.put_group-n.ensures (omega arith) (λ x. group_line c.args.cur.groups (take (n x) (p x))), refl)
