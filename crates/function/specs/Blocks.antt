-- function.rs: the block rows of a job, and the table of block starts that is made from them once. Assumes nothing.
use Rattle.std.specs.Prelude.{ℕ, zero, suc, ◌+◌, ◌*◌, ◌≤◌, ◌<◌, ◌≡◌, List, [], ◌∷◌, ◌++◌, length, get_or}
use Rattle.std.specs.Float.{binary32}
use Rattle.std.specs.Float.Ieee.{of_bits}
use Rattle.definition.specs.declared.BlockData.{BlockData}
use Rattle.definition.specs.RegInfo.{zero_f}
use Rattle.words.specs.RowsAt.{rows_at}
use Rattle.words.specs.declared.rows.lent.Rows.{Rows}
use Rattle.words.specs.Rows.{row_words}
unfoldable pub use Rattle.definition.specs.CutMoves.{block_of}

-- ---- block rows: the instruction count, the frequency's bits

unfoldable pub block_row : List ℕ → ℕ → BlockData
block_row W i = record { insts = get_or W i 0; frequency = of_bits binary32 (get_or W (i + 1) 0) }

-- n blocks, the first at word `at`
abbrev pub blocks_at : List ℕ → ℕ → ℕ → List BlockData
blocks_at W at n = rows_at block_row W at 2 n

-- the blocks of lent rows
abbrev pub blocks_in : Rows 2 → List BlockData
blocks_in t = blocks_at (row_words t) t.at t.n

-- ---- where blocks begin

-- the first instruction of block j; behind the last block, the number of instructions
unfoldable pub start_of : List BlockData → ℕ → ℕ
start_of bs zero = 0
start_of [] (suc j) = 0
start_of (b ∷ bs) (suc j) = b.insts + start_of bs j

abbrev pub no_block : BlockData
no_block = record { insts = 0; frequency = zero_f }

-- block j, or one that no accepted job reads
unfoldable pub block_at : List BlockData → ℕ → BlockData
block_at bs j = get_or bs j no_block

-- ---- the table of starts: a row for each block, its first instruction and its frequency's bits; a last row with the number of instructions

-- the rows of the first j of n blocks that stand from word `from` of W on
unfoldable pub start_rows : List ℕ → ℕ → ℕ → ℕ → List ℕ
unfolding start_of
start_rows W from n zero = []
start_rows W from n (suc j) = start_rows W from n j ++ (start_of (blocks_at W from n) j ∷ get_or W (from + j * 2 + 1) 0 ∷ [])

unfoldable pub start_words : List ℕ → ℕ → ℕ → List ℕ
unfolding start_rows start_of
start_words W from n = start_rows W from n n ++ (start_of (blocks_at W from n) n ∷ 0 ∷ [])

-- The words of W from word `at` on are the table of starts of bs: no block is empty, every frequency is finite and not negative.
pub record Starts (W : List ℕ) (at : ℕ) (bs : List BlockData) : Type 0 where
  pub first : (j : ℕ) → j ≤ length bs → get_or W (at + j * 2) 0 ≡ start_of bs j
  pub bits : (j : ℕ) → j < length bs → of_bits binary32 (get_or W (at + j * 2 + 1) 0) ≡ (block_at bs j).frequency
  pub finite : (j : ℕ) → j < length bs → get_or W (at + j * 2 + 1) 0 < 0x7f80_0000
  pub filled : (j : ℕ) → j < length bs → 1 ≤ (block_at bs j).insts
