use mathlib.Core.Path.{refl, ap, ◌∙◌}
use native.Mathlib.Omega.{arith}
use Rattle.lines.specs.Laws.{as_text}
use Rattle.register_sheet.specs.Typed.{use_line}
use Rattle.sheet_output.specs.Rows.{use_text}
use Rattle.sheet_output.proofs.Texts.{row_kind}
use Rattle.sheet_output.proofs.Words.{use_is}
use borrow.Author.Rules.{rules}
use Rattle.sheet_output.proofs.next_use.Goals as goal

pub put_use-n-requires : goal.put_use-n-requires
put_use-n-requires c = (search rules, search rules, row_kind _ _ _ _ ((rw c.use_base.ensures at c.row-row.ensures) ∙ use_is _ _) c.requires.2)

pub returns : goal.returns
unfolding use_text
returns c = (as_text 256 _ c.put_use-n.ensures (omega arith) (ap use_line ((rw c.use_base.ensures at c.row-row.ensures) ∙ use_is _ _)), refl)
