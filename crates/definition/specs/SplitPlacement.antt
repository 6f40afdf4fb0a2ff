-- split_placement.rs and the blocks of function.rs: the block of an instruction, and both rules for the place of a cut. Assumes nothing.
use Rattle.std.specs.Prelude.{ℕ, suc, ◌+◌, ◌-◌, Bool, true, false, ◌&&◌, cond, List, [], ◌∷◌, ◌++◌, leb, ltb, Float}
use Rattle.std.specs.Float.Ieee.{lt}
use Rattle.definition.specs.Types.{BlockData, Side, Early, Late}
use Rattle.definition.specs.RegInfo.{zero_f}

-- the frequency of the block that holds instruction i
unfoldable pub freq_at : List BlockData → ℕ → Float
freq_at [] i = zero_f
freq_at (b ∷ bs) i = elim (ltb i b.insts) [ true ↦ b.frequency | false ↦ freq_at bs (i - b.insts) ]

-- the block starts: the first instruction of each block, the first block's being i
unfoldable pub starts : ℕ → List BlockData → List ℕ
starts i [] = []
starts i (b ∷ bs) = i ∷ starts (i + b.insts) bs

-- "the block ends (the instruction after the last)"
unfoldable pub ends : ℕ → List BlockData → List ℕ
ends i [] = []
ends i (b ∷ bs) = (i + b.insts) ∷ ends (i + b.insts) bs

unfoldable pub keep : (ℕ → Bool) → List ℕ → List ℕ
keep f [] = []
keep f (x ∷ xs) = let r = keep f xs in cond (f x) (x ∷ r) r

-- "the earliest whose block frequency is least": the first of c and the rest whose price is least
unfoldable pub earliest : (ℕ → Float) → ℕ → List ℕ → ℕ
unfolding lt
earliest price c [] = c
earliest price c (d ∷ ds) = earliest price (cond (lt (price d) (price c)) d c) ds

-- "the latest whose preceding instruction's block frequency is least": the last of c and the rest whose price is least
unfoldable pub latest : (ℕ → Float) → ℕ → List ℕ → ℕ
unfolding lt
latest price c [] = c
latest price c (d ∷ ds) = latest price (cond (lt (price c) (price d)) c d) ds

-- The two rules. That what these folds choose is what the sentences say, and nothing else is, are `early_rule`, `late_rule`, `one_earliest` and `one_latest`
-- of crates/split_placement.

-- "Early: among `after`+1 and the block starts above it up to `before`, the earliest whose block frequency is least."
unfoldable pub early_cut : List BlockData → ℕ → ℕ → ℕ
unfolding freq_at starts keep earliest
early_cut bs after before =
    earliest (λ i. freq_at bs i) (suc after) (keep (λ i. ltb (suc after) i && leb i before) (starts 0 bs))

-- "Late: among `before` and the block ends (the instruction after the last) from `after`+1 to it, the latest whose preceding instruction's block frequency is least."
-- The ends rise, so `before` stands last.
unfoldable pub late_from : (ℕ → Float) → List ℕ → ℕ → ℕ
unfolding latest
late_from price [] before = before
late_from price (c ∷ cs) before = latest price c (cs ++ (before ∷ []))

unfoldable pub late_cut : List BlockData → ℕ → ℕ → ℕ
unfolding freq_at ends keep late_from
late_cut bs after before =
    late_from (λ i. freq_at bs (i - 1)) (keep (λ i. ltb after i && leb i before) (ends 0 bs)) before

-- the place of a cut of each side
abbrev pub side_of : Side → List BlockData → ℕ → ℕ → ℕ
side_of Early bs after before = early_cut bs after before
side_of Late bs after before = late_cut bs after before
