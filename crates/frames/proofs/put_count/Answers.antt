use mathlib.Core.Path.{◌∙◌}
use native.Mathlib.Omega.{arith}
use Rattle.lines.specs.Laws.{as_text}
use Rattle.lines.specs.Places.{decimal_is}
use Rattle.frames.proofs.Texts.{count_short}
use Rattle.frames.proofs.put_count.Goals as goal

pub returns : goal.returns
returns c = let k = count_short _ c.decimal-k.result (omega (arith, c.ranges.v)) c.decimal-k.ensures.len in
    as_text 20 _ c.put_bytes.ensures (omega (arith, k, c.decimal-k.ensures.in_bounds.1)) (c.decimal-k.ensures.digits ∙ decimal_is _ c.decimal-k.result c.decimal-k.ensures.len)
