use mathlib.Core.Path.{ap, ◌∙◌}
use Prim.Native.Nat.{ℕ}
use native.Mathlib.Omega.{arith}
use lib.ListN.{take}
use Rattle.lines.specs.Laws.{as_text}
use Rattle.register_sheet.specs.Typed.{use_numbers_line}
use Rattle.register_sheet.specs.Texts.{use_text_lem}
use Rattle.register_sheet.proofs.put_use.Goals as goal

pub returns : goal.returns
returns c = as_text 256 _ c.use_line.ensures (omega arith)
    (ap (λ (k : ℕ). use_numbers_line (take k c.args.row.now)) c.use_length-k.ensures.0 ∙ use_text_lem c.args.row.now c.requires.1 c.requires.2)
