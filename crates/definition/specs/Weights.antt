-- "Weights", all but the groups' least, which `Place` has. Every operation is in f32, bit-exact. Assumes nothing.
use Rattle.std.specs.Prelude.{ℕ, zero, suc, ◌+◌, Bool, true, false, not, ◌&&◌, cond, List, [], ◌∷◌, pos, leb, Float}
use Rattle.std.specs.Float.{nan, inf, fin, binary32}
use Rattle.std.specs.Float.Ieee.{add, mul, div, lt, of_int}
use Rattle.definition.specs.Types.{RegClass, Use, Options, Remat, Never, CheaperThanMove, CheaperThanLoad, Indirect, Segment, Job}
use Rattle.definition.specs.RegInfo.{zero_f, class_at, value_at}
use Rattle.definition.specs.LiveRange.{live_insts}
use Rattle.definition.specs.Uses.{cost_of}
use Rattle.definition.specs.SplitPlacement.{freq_at}

-- f32::MAX
abbrev pub max_f : Float
max_f = fin false 16777215 (pos 104)

-- "cost (× the value's remat scale)"
unfoldable pub scaled : Options → Remat → Float → Float
unfolding mul
scaled o Never x = x
scaled o CheaperThanMove x = mul binary32 x o.cheaper_than_move
scaled o CheaperThanLoad x = mul binary32 x o.cheaper_than_load
scaled o Indirect x = mul binary32 x o.indirect

abbrev pub is_zero_f : Float → Bool
is_zero_f nan = false
is_zero_f (inf s) = false
is_zero_f (fin s zero e) = true
is_zero_f (fin s (suc m) e) = false

-- "the f32 sum, in order, of cost (× the value's remat scale) × block frequency, zero costs skipped": one use's cost, scaled, added to the sum so far
unfoldable pub add_cost : Float → Float → Float → Float
unfolding add mul
add_cost sum cost freq = cond (is_zero_f cost) sum (add binary32 sum (mul binary32 cost freq))

unfoldable pub sum_uses : Job → Remat → Float → List Use → Float
unfolding add_cost scaled cost_of freq_at
sum_uses job r sum [] = sum
sum_uses job r sum (u ∷ us) = sum_uses job r (add_cost sum (scaled job.options r (cost_of job u.kind)) (freq_at job.blocks u.pos.0)) us

unfoldable pub sum_segs : Job → Float → List Segment → Float
unfolding sum_uses value_at
sum_segs job sum [] = sum
sum_segs job sum (s ∷ ss) = sum_segs job (sum_uses job (value_at job s.value).remat sum s.uses) ss

-- the lesser of two, the first where they are equal
unfoldable pub min_f : Float → Float → Float
unfolding lt
min_f x y = cond (lt y x) y x

-- "over (instructions + k), at most f32::MAX"
unfoldable pub normalized : Float → ℕ → ℕ → Float
unfolding min_f div of_int
normalized sum n k = min_f (div binary32 sum (of_int binary32 (pos (n + k)))) max_f

-- "One instruction or fewer, in a class without spillslots, is infinite. Else the f32 sum"
unfoldable pub weight_of : Job → RegClass → List Segment → Float
unfolding class_at live_insts sum_segs normalized
weight_of job class ss =
    cond (leb (live_insts ss) 1 && not (class_at job class).spillslots) (inf false)
    (normalized (sum_segs job zero_f ss) (live_insts ss) job.options.adjust)
