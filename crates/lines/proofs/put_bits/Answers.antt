use mathlib.Core.Path.{◌∙◌, ap}
use native.Mathlib.Omega.{arith}
use Prim.Native.Nat.{◌<◌}
use Rattle.definition.specs.Text.{eight_digits}
use Rattle.lines.specs.Laws.{as_text}
use Rattle.lines.specs.Places.{bits_short, bits_is}
use Rattle.lines.proofs.put_bits.Goals as goal

pub returns : goal.returns
returns c = let e = c.hex-k.ensures in
    let f : c.from.result < 4294967296 = omega (arith, c.from.ensures, c.ranges.v.fits) in
    as_text 16 _ c.put_bytes.ensures (omega (arith, bits_short _ c.hex-k.result f e.len, e.in_bounds.1)) (e.digits ∙ bits_is _ c.hex-k.result f e.len ∙ ap eight_digits c.from.ensures)
