-- What is promised of the list of moves, in words: each record is a sentence of change request 12.
-- `proofs/Promises.antt` proves them of the definition's `cut_moves`. Assumes nothing.
use Rattle.std.specs.Prelude.{ℕ, ◌+◌, ◌-◌, ◌≤◌, ◌<◌, ◌≡◌, true, List, length, get_or}
use Rattle.std.specs.Float.{binary32}
use Rattle.std.specs.Float.Ieee.{of_bits}
use Rattle.definition.specs.declared.Inst.{Inst}
use Rattle.definition.specs.declared.BlockData.{BlockData}
use Rattle.definition.specs.declared.CutMove.{CutMove}
use Rattle.definition.specs.declared.Way.{Way}
use Rattle.definition.specs.declared.Way.TheVariants.{Up, Down}
use Rattle.definition.specs.Entry.{insts_of, every, block_ok}
use Rattle.definition.specs.CutMoves.{infinity, pattern_of}
use Rattle.function.specs.Blocks.{block_at}

-- ---- what is spoken of

-- blocks and ends that 01 accepts, every frequency an f32
pub record Fair (bs : List BlockData) (after before : Inst) : Type 0 where
  pub blocks_ok : every block_ok bs ≡ true
  pub f32s : (j : ℕ) → j < length bs → of_bits binary32 (pattern_of bs j) ≡ (block_at bs j).frequency
  pub finite : (j : ℕ) → j < length bs → pattern_of bs j < infinity
  pub order : after.0 < before.0
  pub within : before.0 < insts_of bs

abbrev pub no_move : CutMove
no_move = record { block = record { 0 = 0 }; way = Up; steps = 0 }

-- row k
abbrev pub move_at : List CutMove → ℕ → CutMove
move_at ms k = get_or ms k no_move

-- a row names block j
pub record Named (ms : List CutMove) (j : ℕ) : Type 0 where
  pub row : ℕ
  pub there : row < length ms
  pub is : (move_at ms row).block.0 ≡ j

-- ---- "steps: the difference of bit patterns read as whole numbers"

-- from `own` on, k steps that way
abbrev pub target : Way → ℕ → ℕ → ℕ
target Up own k = own + k
target Down own k = own - k

-- x lies that way from `own`, k steps off at least
abbrev pub Off : Way → ℕ → ℕ → ℕ → Type 0
Off Up own k x = own + k ≤ x
Off Down own k x = x + k ≤ own

-- the steps between two patterns
abbrev pub apart : ℕ → ℕ → ℕ
apart x y = (x - y) + (y - x)

-- ---- what is promised, `own` giving each block's pattern and `moves j x` saying that the pattern x in block j moves
-- the cut

module _ (own : ℕ → ℕ) (moves : ℕ → ℕ → Type 0) where
  -- some "finite frequency from zero up moves the cut" at block j
  pub record Movable (j : ℕ) : Type 0 where
    pub pattern : ℕ
    pub finite : pattern < infinity
    pub moved : moves j pattern

  -- "the fewest f32 steps needed": so many that way are there and move the cut; what moves it lies that way and so far
  -- off; and all that lies so far off moves it
  pub record Fewest (m : CutMove) : Type 0 where
    pub there : Off m.way (own m.block.0) m.steps (target m.way (own m.block.0) m.steps)
    pub finite : target m.way (own m.block.0) m.steps < infinity
    pub moved : moves m.block.0 (target m.way (own m.block.0) m.steps)
    pub nearest : (x : ℕ) → x < infinity → moves m.block.0 x → Off m.way (own m.block.0) m.steps x
    pub further : (x : ℕ) → x < infinity → Off m.way (own m.block.0) m.steps x → moves m.block.0 x

-- "The list runs from the fewest steps, equal ones by block."
pub record InOrder (ms : List CutMove) : Type 0 where
  pub fewest : (j k : ℕ) → j < k → k < length ms → (move_at ms j).steps ≤ (move_at ms k).steps
  pub equal : (j k : ℕ) → j < k → k < length ms → (move_at ms j).steps ≡ (move_at ms k).steps
      → (move_at ms j).block.0 < (move_at ms k).block.0
  pub once : (j k : ℕ) → j < k → k < length ms → (move_at ms j).block.0 ≡ (move_at ms k).block.0 → ⊥
