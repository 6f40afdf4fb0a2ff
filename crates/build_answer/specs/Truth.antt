-- Change request 13, "How true the weights are": the words of its sentences, and those for ranks. Assumes nothing.
use Rattle.std.specs.Prelude.{ℕ, ◌+◌, ◌-◌, ◌*◌, ◌^◌, ◌≤◌, ◌<◌, ◌≡◌, Bool, true, false, cond, ◌&&◌, ◌||◌, List, [], ◌∷◌, pos, T, leb, eqb, Float}
use Rattle.std.proofs.Math.Option.{none}
use Rattle.std.specs.Float.{nan, inf, fin, binary32}
use Rattle.std.specs.Float.Ieee.{up, down, add, mul, div, of_int, to_bits, fits}
use Rattle.std.specs.Float.Ieee.Positive.{num, den}
use Rattle.definition.specs.declared.RegClass.{RegClass}
use Rattle.definition.specs.declared.Options.{Options}
use Rattle.definition.specs.declared.Remat.{Remat}
use Rattle.definition.specs.declared.Remat.TheVariants.{Never, CheaperThanMove, CheaperThanLoad, Indirect}
use Rattle.definition.specs.declared.Use.{Use}
use Rattle.definition.specs.Types.{Segment, Job, Register}
use Rattle.definition.specs.RegInfo.{zero_f, class_at, value_at}
use Rattle.definition.specs.LiveRange.{live_insts}
use Rattle.definition.specs.Uses.{cost_of}
use Rattle.definition.specs.SplitPlacement.{freq_at}
use Rattle.definition.specs.Weights.{scaled, is_zero_f, add_cost, sum_uses, sum_segs}
use Rattle.definition.specs.Place.{segs_of}
use Rattle.weights.proofs.Bits.{whole}

-- ---- "the exact fraction of whole numbers for the same sum": its numerator

-- an f32 in units of 2 ^ -149, the least above zero; so a product of three is in units of 2 ^ -447
unfoldable pub units : Float → ℕ
unfolding to_bits
units x = whole (to_bits binary32 x)

-- the scale of a value's remat kind; where there is none the cost is as it is, which is the scale 1
unfoldable pub exact_scale : Options → Remat → ℕ
unfolding units
exact_scale o Never = 2 ^ 149
exact_scale o CheaperThanMove = units o.cheaper_than_move
exact_scale o CheaperThanLoad = units o.cheaper_than_load
exact_scale o Indirect = units o.indirect

-- the frequency of the block that a use is in
abbrev pub freq_of : Job → Use → Float
freq_of job u = freq_at job.blocks u.pos.0

-- one use: cost × scale × frequency
unfoldable pub exact_use : Job → Remat → Use → ℕ
unfolding units exact_scale cost_of freq_at
exact_use job r u = units (cost_of job u.kind) * exact_scale job.options r * units (freq_of job u)

-- the uses of one segment, whose value has the remat kind r
unfoldable pub exact_uses : Job → Remat → List Use → ℕ
unfolding exact_use
exact_uses job r [] = 0
exact_uses job r (u ∷ us) = exact_use job r u + exact_uses job r us

unfoldable pub exact_sum : Job → List Segment → ℕ
unfolding exact_uses value_at
exact_sum job [] = 0
exact_sum job (s ∷ ss) = exact_uses job (value_at job s.value).remat s.uses + exact_sum job ss

-- ---- "n nonzero uses": those whose exact product is not zero

abbrev pub nonzero : Job → Remat → Use → ℕ
nonzero job r u = cond (eqb (exact_use job r u) 0) 0 1

unfoldable pub nonzero_uses : Job → Remat → List Use → ℕ
unfolding exact_use
nonzero_uses job r [] = 0
nonzero_uses job r (u ∷ us) = nonzero job r u + nonzero_uses job r us

unfoldable pub nonzeros : Job → List Segment → ℕ
unfolding nonzero_uses value_at
nonzeros job [] = 0
nonzeros job (s ∷ ss) = nonzero_uses job (value_at job s.value).remat s.uses + nonzeros job ss

-- another reading of n: the uses that the rule does not skip, which are at least as many (`skips_more`)
abbrev pub scaled_cost : Job → Remat → Use → Float
scaled_cost job r u = scaled job.options r (cost_of job u.kind)

abbrev pub unskipped : Job → Remat → Use → ℕ
unskipped job r u = cond (is_zero_f (scaled_cost job r u)) 0 1

unfoldable pub unskipped_uses : Job → Remat → List Use → ℕ
unfolding scaled cost_of
unskipped_uses job r [] = 0
unskipped_uses job r (u ∷ us) = unskipped job r u + unskipped_uses job r us

unfoldable pub unskipped_in : Job → List Segment → ℕ
unfolding unskipped_uses value_at
unskipped_in job [] = 0
unskipped_in job (s ∷ ss) = unskipped_uses job (value_at job s.value).remat s.uses + unskipped_in job ss

-- ---- "either normal and finite or exactly zero where its exact value is zero"

-- from 2 ^ -126 up, and finite; no float here is negative
abbrev pub normal : Float → Bool
normal nan = false
normal (inf s) = false
normal (fin s m e) = leb (down e) (m * up e * 2 ^ 126)

-- x is the rounded value of a fraction whose numerator is a: x is normal, or it is zero, and so is a
abbrev pub fine : Float → ℕ → Bool
fine x a = normal x || (is_zero_f x && eqb a 0)

abbrev pub fine_mul : Float → Float → Bool
fine_mul x y = fine (mul binary32 x y) (num x * num y)

abbrev pub fine_add : Float → Float → Bool
fine_add x y = fine (add binary32 x y) (num x + num y)

abbrev pub fine_div : Float → Float → Bool
fine_div x y = fine (div binary32 x y) (num x)

-- ---- "let every product, sum and quotient be" so: along the sum, in its order

-- cost × scale, where there is a scale
abbrev pub fine_scale : Options → Remat → Float → Bool
fine_scale o Never x = true
fine_scale o CheaperThanMove x = fine_mul x o.cheaper_than_move
fine_scale o CheaperThanLoad x = fine_mul x o.cheaper_than_load
fine_scale o Indirect x = fine_mul x o.indirect

-- x, the scaled cost, times the frequency; and the new sum, t being the sum so far
abbrev pub fine_term : Float → Float → Float → Bool
fine_term t x freq = fine_mul x freq && fine_add t (mul binary32 x freq)

-- of one use: the first product, and, where it is not zero, the second and the new sum
abbrev pub fine_use : Job → Remat → Float → Use → Bool
fine_use job r t u =
    fine_scale job.options r (cost_of job u.kind)
    && (is_zero_f (scaled_cost job r u) || fine_term t (scaled_cost job r u) (freq_of job u))

unfoldable pub fine_uses : Job → Remat → Float → List Use → Bool
unfolding add mul scaled cost_of freq_at add_cost
fine_uses job r t [] = true
fine_uses job r t (u ∷ us) = fine_use job r t u && fine_uses job r (add_cost t (scaled_cost job r u) (freq_of job u)) us

unfoldable pub fine_segs : Job → Float → List Segment → Bool
unfolding fine_uses value_at sum_uses
fine_segs job t [] = true
fine_segs job t (s ∷ ss) =
    let r = (value_at job s.value).remat in
    fine_uses job r t s.uses && fine_segs job (sum_uses job r t s.uses) ss

-- of the sum t over n, the instructions and k
unfoldable pub fine_quotient : Float → ℕ → Bool
unfolding div of_int
fine_quotient t n = fine_div t (of_int binary32 (pos n))

-- the same as facts
abbrev pub Fine : Float → ℕ → Type 0
Fine x a = T (fine x a)

abbrev pub FineUses : Job → Remat → Float → List Use → Type 0
FineUses job r t us = T (fine_uses job r t us)

abbrev pub FineSegs : Job → Float → List Segment → Type 0
FineSegs job t ss = T (fine_segs job t ss)

abbrev pub FineQuotient : Float → ℕ → Type 0
FineQuotient t n = T (fine_quotient t n)

-- ---- "Then the distance of W and E times 2^23 is at most (n + 3) × E."

abbrev pub distance : ℕ → ℕ → ℕ
distance x y = (x - y) + (y - x)

-- W = num w / den w and E = s / (2 ^ 447 * over), multiplied by both denominators: no fraction is in it. With 2 ^ 25 it
-- would be false of one use already (`one_not_nearer`, proofs/Instance.antt).
abbrev pub Near : ℕ → Float → ℕ → ℕ → Type 0
Near n w s over = distance (num w * (2 ^ 447 * over)) (s * den w) * 2 ^ 23 ≤ (n + 3) * (s * den w)

-- w and the exact fraction of the segments ss: the exact sum over the instructions that they touch and k
abbrev pub NearExact : Job → List Segment → Float → Type 0
NearExact job ss w = Near (nonzeros job ss) w (exact_sum job ss) (live_insts ss + job.options.adjust)

-- ---- of a job and its registers

-- every float of the job is an f32: so is each that bytes or a sheet stand for
pub record F32Job (job : Job) : Type 0 where
  pub move_fits : T (fits binary32 job.options.cheaper_than_move)
  pub load_fits : T (fits binary32 job.options.cheaper_than_load)
  pub indirect_fits : T (fits binary32 job.options.indirect)
  pub costs : (c : RegClass) → T (fits binary32 (class_at job c).cost)
  pub frequencies : (i : ℕ) → T (fits binary32 (freq_at job.blocks i))

-- the conditions of segments whose weight is w: not infinite, "n at most 4,096", every product, sum and quotient
pub record FineWeight (job : Job) (ss : List Segment) (w : Float) : Type 0 where
  pub not_infinite : w ≡ inf false → ⊥
  pub few : nonzeros job ss ≤ 4096
  pub sums : FineSegs job zero_f ss
  pub quotient : FineQuotient (sum_segs job zero_f ss) (live_insts ss + job.options.adjust)

-- "For a register without group and of finite weight", under the conditions
abbrev pub Spoken : Job → Register → Type 0
Spoken job r = (r.group ≡ none) × FineWeight job (segs_of r.pieces) r.weight

abbrev pub TrueWeight : Job → Register → Type 0
TrueWeight job r = Spoken job r → NearExact job (segs_of r.pieces) r.weight

-- ---- ranks: of two weights, each with its n, and of two exact fractions, each a sum over a count

-- W1 * (2 ^ 23 - (n2 + 3)) > W2 * (2 ^ 23 + (n1 + 3)), multiplied by both denominators
abbrev pub FarAbove : ℕ → Float → ℕ → Float → Type 0
FarAbove n₁ w₁ n₂ w₂ = num w₂ * den w₁ * (2 ^ 23 + (n₁ + 3)) < num w₁ * den w₂ * (2 ^ 23 - (n₂ + 3))

-- E1 > E2, multiplied by both denominators, without the 2 ^ 447 that they share
abbrev pub MoreExact : ℕ → ℕ → ℕ → ℕ → Type 0
MoreExact s₁ d₁ s₂ d₂ = s₂ * d₁ < s₁ * d₂

-- of two registers
abbrev pub RankTrue : Job → Register → Register → Type 0
RankTrue job r q =
    let ss = segs_of r.pieces in
    let ts = segs_of q.pieces in
    let k = job.options.adjust in
    Spoken job r → Spoken job q → FarAbove (nonzeros job ss) r.weight (nonzeros job ts) q.weight
    → MoreExact (exact_sum job ss) (live_insts ss + k) (exact_sum job ts) (live_insts ts + k)
