-- Document 01's rules for a cut in its own words: the open places, and the earliest or latest of them whose block frequency is least.
-- `proofs/Rules.antt` proves that the definition's `early_cut` and `late_cut` are these places. Assumes nothing.
use Rattle.std.specs.Prelude.{ℕ, zero, suc, ◌+◌, ◌-◌, ◌*◌, ◌≤◌, ◌<◌, ◌≡◌, true, false, cond, List, ltb, length, get_or, Float}
use Rattle.std.specs.Float.Ieee.{lt}
use Rattle.definition.specs.declared.BlockData.{BlockData}
use Rattle.definition.specs.declared.Side.{Side}
use Rattle.definition.specs.declared.Side.TheVariants.{Early, Late}
use Rattle.definition.specs.SplitPlacement.{freq_at}
use Rattle.function.specs.Blocks.{start_of}
use Rattle.function.specs.declared.starts.table.BlockStarts.{BlockStarts}
use Rattle.function.specs.Table.{words_in}

-- ---- the open places

pub record IsStart (bs : List BlockData) (p : ℕ) : Type 0 where
  pub block : ℕ
  pub there : block < length bs
  pub is : p ≡ start_of bs block

-- "the block ends (the instruction after the last)"
pub record IsEnd (bs : List BlockData) (p : ℕ) : Type 0 where
  pub block : ℕ
  pub there : block < length bs
  pub is : p ≡ start_of bs (suc block)

-- "`after`+1 and the block starts above it up to `before`"
pub data EarlyPlace (bs : List BlockData) (after before p : ℕ) : Type 0 where
  next : p ≡ suc after → EarlyPlace bs after before p
  start : IsStart bs p → suc after < p → p ≤ before → EarlyPlace bs after before p

-- "`before` and the block ends (the instruction after the last) from `after`+1 to it"
pub data LatePlace (bs : List BlockData) (after before p : ℕ) : Type 0 where
  last : p ≡ before → LatePlace bs after before p
  end : IsEnd bs p → suc after ≤ p → p ≤ before → LatePlace bs after before p

-- ---- the place wanted

-- "the earliest whose block frequency is least": no place has a lower one, and every earlier place has a higher one
pub record EarliestLeast (Place : ℕ → Type 0) (price : ℕ → Float) (c : ℕ) : Type 0 where
  pub place : Place c
  pub least : (p : ℕ) → Place p → lt (price p) (price c) ≡ false
  pub earliest : (p : ℕ) → Place p → p < c → lt (price c) (price p) ≡ true

pub record LatestLeast (Place : ℕ → Type 0) (price : ℕ → Float) (c : ℕ) : Type 0 where
  pub place : Place c
  pub least : (p : ℕ) → Place p → lt (price p) (price c) ≡ false
  pub latest : (p : ℕ) → Place p → c < p → lt (price c) (price p) ≡ true

-- ---- both sides at once

-- the open places of a side
abbrev pub OpenPlace : Side → List BlockData → ℕ → ℕ → ℕ → Type 0
OpenPlace Early bs after before p = EarlyPlace bs after before p
OpenPlace Late bs after before p = LatePlace bs after before p

-- the frequency that a side judges a place by: "block frequency", and "preceding instruction's block frequency"
abbrev pub judged : Side → List BlockData → ℕ → Float
judged Early bs p = freq_at bs p
judged Late bs p = freq_at bs (p - 1)

-- Change request 7: "The cut's frequency is still least among the open places of its side."
pub record LeastOpen (side : Side) (bs : List BlockData) (after before c : ℕ) : Type 0 where
  pub place : OpenPlace side bs after before c
  pub least : (p : ℕ) → OpenPlace side bs after before p → lt (judged side bs p) (judged side bs c) ≡ false

-- ---- what the code answers, over the rows of a table of starts

-- the bits of row j's frequency
abbrev pub bits_in : BlockStarts → ℕ → ℕ
bits_in t j = get_or (words_in t) (t.at + j * 2 + 1) 0

-- of c and of j behind it, the one of lower f; of equal ones the one ahead
abbrev pub ahead : Side → (ℕ → ℕ) → ℕ → ℕ → ℕ
ahead Early f c j = cond (ltb (f j) (f c)) j c
ahead Late f c j = cond (ltb (f c) (f j)) c j

-- of c and the k numbers behind j the one whose f is least: early the first such, late the last
unfoldable pub least : Side → (ℕ → ℕ) → ℕ → ℕ → ℕ → ℕ
least side f c j zero = c
least side f c j (suc k) = least side f (ahead side f c (j + 1)) (j + 1) k
