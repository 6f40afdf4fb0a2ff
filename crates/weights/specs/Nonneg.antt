-- What a sum of costs and a weight are. Assumes nothing.
use Rattle.std.specs.Prelude.{Bool, false, not, T, Float}
use Rattle.std.specs.Float.{nan, inf, fin, binary32}
use Rattle.std.specs.Float.Ieee.{fits}

-- a number that is not negative (no minus zero), or the positive infinity; no NaN
abbrev pub nonneg : Float → Bool
nonneg nan = false
nonneg (inf s) = not s
nonneg (fin s m e) = not s

-- a weight: not negative or infinite, and a value of f32
abbrev pub Weight : Float → Type 0
Weight x = T (nonneg x) × T (fits binary32 x)
