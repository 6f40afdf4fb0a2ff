use mathlib.Core.Path.{◌∙◌, ap}
use native.Mathlib.Omega.{arith}
use Prim.Native.Nat.{◌≤◌}
use Rattle.definition.specs.Text.{decimal}
use Rattle.lines.specs.Laws.{as_text}
use Rattle.lines.specs.Places.{decimal_short, decimal_is}
use Rattle.lines.proofs.put_number.Goals as goal

pub returns : goal.returns
returns c = let e = c.decimal-k.ensures in
    let s : c.decimal-k.result ≤ 20 = decimal_short c.from.result c.decimal-k.result (omega (arith, c.from.ensures, c.ranges.v.fits)) e.len in
    as_text 20 _ c.put_bytes.ensures (omega (arith, s, e.in_bounds.1)) (e.digits ∙ decimal_is _ c.decimal-k.result e.len ∙ ap decimal c.from.ensures)
