use Rattle.register_sheet.specs.Texts.{origin_text}
use mathlib.Core.Bool.{true, false}
use borrow.Author.Tests.{eq-eqb, ne_eqb}
use native.Mathlib.Omega.{arith}
use Rattle.lines.specs.Laws.{as_text}
use Rattle.register_sheet.proofs.put_origin.Goals as goal

pub returns-then-origin : goal.returns-then-origin
returns-then-origin c = as_text 10 _ c.put_bytes.ensures (omega arith) (origin_text _ true (eq-eqb _ _ c.if-origin.true))

pub returns-else-origin : goal.returns-else-origin
returns-else-origin c = as_text 10 _ c.put_bytes-else-origin.ensures (omega arith) (origin_text _ false (ne_eqb _ _ c.if-origin.false))
