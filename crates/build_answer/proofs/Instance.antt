-- Jobs by computing: one that meets the conditions and whose weight is not exact; one use that 2 ^ 25 would be too much
-- for; a job outside the conditions, for which the bound fails; ranks that weights alone turn round. Assumes nothing.
use mathlib.Core.Path.{◌≡◌, refl}
use mathlib.Core.Bool.{true, false}
use mathlib.Core.Option.{none}
use mathlib.Core.List.{List, [], ◌∷◌, ◌++◌}
use Prim.Native.Nat.{ℕ, ◌+◌, ◌*◌, ◌^◌, ◌<◌}
use native.Mathlib.Nat.{not-le_of_lt}
use native.Mathlib.Omega.{arith}
use lib.Dec.{lit≤, lit<}
use lib.Ieee.{Float, binary32, of_bits}
use lib.Ieee.Positive.{num, den}
use Rattle.definition.specs.declared.BlockData.{BlockData}
use Rattle.definition.specs.declared.ClassData.{ClassData}
use Rattle.definition.specs.declared.Remat.{Remat}
use Rattle.definition.specs.declared.Remat.TheVariants.{Never, CheaperThanMove}
use Rattle.definition.specs.declared.Use.{Use}
use Rattle.definition.specs.declared.UseKind.{UseKind}
use Rattle.definition.specs.declared.UseKind.TheVariants.{ClassUse, FixedUse}
use Rattle.definition.specs.declared.ValueData.{ValueData}
use Rattle.definition.specs.Types.{Job, Segment, Register, done, inst, val, vset, cls, point}
use Rattle.definition.specs.Limits.{vregs_room}
use Rattle.definition.specs.RegInfo.{zero_f}
use Rattle.definition.specs.LiveRange.{live_insts}
use Rattle.definition.specs.Weights.{sum_segs, weight_of}
use Rattle.definition.specs.Build.{as_own}
use Rattle.definition.specs.Entry.{answer}
use Rattle.build_answer.specs.Truth.{FarAbove, FineSegs, fine_segs, fine_quotient, FineWeight, MoreExact, Near}
use Rattle.build_answer.specs.Truth.{NearExact, Spoken, exact_sum}
use Rattle.build_answer.specs.Truth.{nonzeros, distance}

-- ---- records as the sheets write them

abbrev f32 : ℕ → Float
f32 b = of_bits binary32 b

use' : ℕ → UseKind → Use
use' p k = record { pos = inst p; kind = k }

seg : ℕ → ℕ → ℕ → List Use → Segment
seg v a b us = record {
  value = val v;
  «from» = point a;
  to = point b;
  flags = record { livein = false; liveout = false; fixedhint = false; fixeddef = false };
  uses = us;
}

class : ℕ → ℕ → ClassData
unfolding of_bits
class m c = record { mask = m; cost = f32 c; size = 1; spillslots = false }

block : ℕ → ℕ → BlockData
unfolding of_bits
block n f = record { insts = n; frequency = f32 f }

-- a value of bank 0 that is led by value n
led : ℕ → Remat → ValueData
led n r = record { bank = record { 0 = 0 }; leader = val n; remat = r }

-- a register without group
alone : ℕ → ℕ → ℕ → List Segment → Register
unfolding of_bits
alone n c w ss = record { set = vset n; class = cls c; weight = f32 w; group = none; index = 0; pieces = as_own ss }

-- s is the scale of the first remat kind; one register, which is in memory
job : ℕ → ℕ → List ClassData → List BlockData → List ValueData → List Segment → Job
unfolding of_bits
job k s cs bs vs ss = record {
  options = record { adjust = k; cheaper_than_move = f32 s; cheaper_than_load = zero_f; indirect = zero_f };
  banks = cls 0 ∷ [];
  classes = cs;
  memory = true ∷ [];
  blocks = bs;
  values = vs;
  vgroups = [];
  operands = [];
  hints = [];
  segments = ss;
}

-- ---- the conditions can be met: costs 1.9, 0 and 2 ^ 20, a scale of 1/3, frequencies 1.5, 0 and 2 ^ -127, which is
-- subnormal, and its product, of cost 2 ^ 20, normal

-- of value 1, which is scaled
first_uses : List Use
unfolding use'
first_uses = use' 0 (ClassUse 0 (cls 0)) ∷ []

-- of value 0: a register in memory, which costs 0; in the first block; in the block of frequency 0; in the last block
other_uses : List Use
unfolding use'
other_uses =
    use' 1 (FixedUse (record { 0 = 0 })) ∷ use' 1 (ClassUse 0 (cls 0)) ∷ use' 2 (ClassUse 0 (cls 0))
    ∷ use' 4 (ClassUse 0 (cls 1)) ∷ []

fine_segs_lem : List Segment
unfolding seg first_uses other_uses
fine_segs_lem = seg 1 0 6 first_uses ∷ seg 0 6 20 other_uses ∷ []

fine_job : Job
unfolding job class block led fine_segs_lem
fine_job =
    job 7 0x3eaaaaab (class 3 0x3ff33333 ∷ class 2 0x49800000 ∷ [])
    (block 2 0x3fc00000 ∷ block 2 0 ∷ block 2 0x00400000 ∷ []) (led 0 Never ∷ led 0 CheaperThanMove ∷ []) fine_segs_lem

fine_register : Register
unfolding alone fine_segs_lem
fine_register = alone 0 1 0x3ea22222 fine_segs_lem

-- it is accepted, and its one register is without group
fine_answer : answer fine_job vregs_room ≡ done (record { registers = fine_register ∷ []; groups = [] })
unfolding answer fine_job fine_register
fine_answer = refl

-- three of its five uses count, and every product, sum and quotient is fine
fine_spoken : Spoken fine_job fine_register
unfolding fine_job fine_register fine_segs fine_quotient nonzeros sum_segs live_insts
fine_spoken = (
  refl,
  record {
    not_infinite = λ e. absurd (let z : ◌≡◌ {A = ℕ} 0 1 = cc in omega arith);
    few = lit≤ tt;
    sums = tt;
    quotient = tt;
  },
)

fine_count : nonzeros fine_job fine_segs_lem ≡ 3
unfolding fine_job nonzeros
fine_count = refl

-- the bound, by computing
fine_near : NearExact fine_job fine_segs_lem (f32 0x3ea22222)
unfolding fine_job nonzeros exact_sum live_insts of_bits
fine_near = lit≤ tt

-- and W is not E: over 5 instructions and k, which is 7
fine_inexact : 0 < distance (num (f32 0x3ea22222) * (2 ^ 447 * 12)) (exact_sum fine_job fine_segs_lem * den (f32 0x3ea22222))
unfolding fine_job exact_sum of_bits
fine_inexact = lit< tt

-- ---- one use, of cost 3ff33333, scale 3f8ccccd and frequency 3fc00000, over 4 instructions and 7

one_segs : List Segment
unfolding seg use'
one_segs = seg 0 0 16 (use' 0 (ClassUse 0 (cls 0)) ∷ []) ∷ []

one_job : Job
unfolding job class block led one_segs
one_job = job 7 0x3f8ccccd (class 1 0x3ff33333 ∷ []) (block 4 0x3fc00000 ∷ []) (led 0 CheaperThanMove ∷ []) one_segs

one_weight : Float
unfolding one_job weight_of
one_weight = weight_of one_job (cls 0) one_segs

one_fine : FineWeight one_job one_segs one_weight
unfolding one_weight fine_segs fine_quotient nonzeros sum_segs live_insts
one_fine = record {
  not_infinite = λ e. absurd (let z : ◌≡◌ {A = ℕ} 0 1 = cc in omega arith);
  few = lit≤ tt;
  sums = tt;
  quotient = tt;
}

one_near : Near 1 one_weight (exact_sum one_job one_segs) 11
unfolding one_weight exact_sum
one_near = lit≤ tt

-- with 2 ^ 25 in place of 2 ^ 23 the bound is false
one_not_nearer : (1 + 3) * (exact_sum one_job one_segs * den one_weight)
    < distance (num one_weight * (2 ^ 447 * 11)) (exact_sum one_job one_segs * den one_weight) * 2 ^ 25
unfolding one_weight exact_sum
one_not_nearer = lit< tt

-- ---- the same in a block of the least frequency above zero, 2 ^ -149: its product is subnormal

low_segs : List Segment
unfolding seg use'
low_segs = seg 0 0 16 (use' 0 (ClassUse 0 (cls 0)) ∷ []) ∷ []

low_job : Job
unfolding job class block led low_segs
low_job = job 7 0x3f8ccccd (class 1 0x3ff33333 ∷ []) (block 4 1 ∷ []) (led 0 CheaperThanMove ∷ []) low_segs

low_register : Register
unfolding alone low_segs
low_register = alone 0 0 0 low_segs

low_answer : answer low_job vregs_room ≡ done (record { registers = low_register ∷ []; groups = [] })
unfolding answer low_job low_register
low_answer = refl

-- the conditions fail
not_fine : FineSegs low_job zero_f low_segs → ⊥
unfolding low_job fine_segs
not_fine g = g

-- and so does the bound
not_near : NearExact low_job low_segs low_register.weight → ⊥
unfolding low_job low_register nonzeros exact_sum live_insts
not_near h = not-le_of_lt (lit< tt) h

-- ---- ranks: four registers over 6 instructions and k, which is 2; cost 1, frequencies 2 ^ 24, 1, 1, 1.5, 40, 2 ^ 24

at : ℕ → Use
unfolding use'
at p = use' p (ClassUse 0 (cls 0))

rank_segs : ℕ → List Use → List Segment
unfolding seg
rank_segs v us = seg v 0 24 us ∷ []

-- 2 ^ 24 + 1 + 1, 2 ^ 24 + 1.5, 2 ^ 24 + 40 and 1 + 1 + 2 ^ 24
segs₀ : List Segment
unfolding rank_segs at
segs₀ = rank_segs 0 (at 0 ∷ at 1 ∷ at 2 ∷ [])

segs₁ : List Segment
unfolding rank_segs at
segs₁ = rank_segs 1 (at 0 ∷ at 3 ∷ [])

segs₂ : List Segment
unfolding rank_segs at
segs₂ = rank_segs 2 (at 0 ∷ at 4 ∷ [])

segs₃ : List Segment
unfolding rank_segs at
segs₃ = rank_segs 3 (at 1 ∷ at 2 ∷ at 5 ∷ [])

rank_blocks : List BlockData
unfolding block
rank_blocks =
    block 1 0x4b800000 ∷ block 1 0x3f800000 ∷ block 1 0x3f800000 ∷ block 1 0x3fc00000 ∷ block 1 0x42200000
    ∷ block 1 0x4b800000 ∷ []

rank_job : Job
unfolding job class led rank_blocks segs₀ segs₁ segs₂ segs₃
rank_job =
    job 2 0x3f800000 (class 1 0x3f800000 ∷ []) rank_blocks (led 0 Never ∷ led 1 Never ∷ led 2 Never ∷ led 3 Never ∷ [])
    (segs₀ ++ segs₁ ++ segs₂ ++ segs₃)

ranked : List Register
unfolding alone segs₀ segs₁ segs₂ segs₃
ranked =
    alone 0 0 0x4a000000 segs₀ ∷ alone 1 0 0x4a000001 segs₁ ∷ alone 2 0 0x4a000014 segs₂
    ∷ alone 3 0 0x4a000001 segs₃ ∷ []

rank_answer : answer rank_job vregs_room ≡ done (record { registers = ranked; groups = [] })
unfolding answer rank_job ranked
rank_answer = refl

-- the second has the greater weight and the lesser exact fraction: the rule does not rank it above the first
swapped : (num (f32 0x4a000000) * den (f32 0x4a000001) < num (f32 0x4a000001) * den (f32 0x4a000000))
    × MoreExact (exact_sum rank_job segs₀) 8 (exact_sum rank_job segs₁) 8
    × (FarAbove 2 (f32 0x4a000001) 3 (f32 0x4a000000) → ⊥)
unfolding rank_job exact_sum of_bits
swapped = (lit< tt, lit< tt, (λ h. not-le_of_lt h (lit≤ tt)))

-- the third is ranked above the first
above : FarAbove 2 (f32 0x4a000014) 3 (f32 0x4a000000)
unfolding of_bits
above = lit< tt

-- the fourth has the first's uses in another order: one exact fraction, two weights
reordered : exact_sum rank_job segs₃ ≡ exact_sum rank_job segs₀
unfolding rank_job exact_sum
reordered = refl
