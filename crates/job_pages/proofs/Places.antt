-- Where the rows of segments and of values begin. Assumes nothing.
use mathlib.Core.Path.{◌≡◌, refl}
use Prim.Native.Nat.{ℕ, ◌+◌, ◌*◌, ◌<◌}
use Rattle.sheet_rules.specs.Places.{limits, limit_of, bases, base_of, widths, width_of, row_at}
use Rattle.sheet_laws.specs.Regions.{row_is}

pub segment_row : (s : ℕ) → s < 1024 → row_at 9 s ≡ 13974 + s * 5
unfolding limits limit_of bases base_of widths width_of
segment_row s h = row_is 9 s h

pub value_row : row_at 5 0 ≡ 1430
unfolding row_at limits limit_of bases base_of widths width_of
value_row = refl
