-- What would move a cut, computed: `cases` is a table of blocks, ends, side and answer, `cases_computed` computes it.
-- Assumes nothing.
use Prim.Native.Nat.{ℕ}
use mathlib.Core.Path.{◌≡◌, refl}
use mathlib.Core.List.{List, [], ◌∷◌, map}
use lib.Ieee.{binary32, of_bits}
use Rattle.definition.specs.Types.{BlockData, Side, Early, Late, inst}
use Rattle.definition.specs.CutMoves.{CutMove, Way, Up, Down, cut_moves}

record Case : Type 0 where
  blocks : List BlockData
  after : ℕ
  before : ℕ
  side : Side
  moves : List CutMove

-- a block of n instructions and the pattern w
abbrev block : ℕ → ℕ → BlockData
block n w = record { insts = n; frequency = of_bits binary32 w }

-- three blocks of 4 instructions and these patterns
abbrev three : ℕ → ℕ → ℕ → List BlockData
three x y z = block 4 x ∷ block 4 y ∷ block 4 z ∷ []

abbrev move : ℕ → Way → ℕ → CutMove
move b w k = record { block = record { 0 = b }; way = w; steps = k }

abbrev case : List BlockData → ℕ → ℕ → Side → List CutMove → Case
case bs a b s ms = record { blocks = bs; after = a; before = b; side = s; moves = ms }

-- 01's F: frequencies 3, 2, 2, the uses in the first block and deep in the last
abbrev F : List BlockData
F = block 4 0x40400000 ∷ block 4 0x40000000 ∷ block 8 0x40000000 ∷ []

-- 01's G: frequencies 3, 2, 1, `before` the start of the last block
abbrev G : List BlockData
G = block 4 0x40400000 ∷ block 4 0x40000000 ∷ block 8 0x3f800000 ∷ []

abbrev cases : List Case
cases =
    case F 1 13 Early (move 1 Up 1 ∷ move 2 Down 1 ∷ move 0 Down 4194304 ∷ [])
    ∷ case F 1 13 Late (move 1 Down 1 ∷ move 2 Up 1 ∷ move 0 Down 4194305 ∷ [])
    ∷ case G 1 8 Early (move 1 Down 8388608 ∷ move 2 Up 8388608 ∷ move 0 Down 12582912 ∷ [])
    ∷ case G 1 8 Late (move 0 Down 4194305 ∷ move 1 Up 4194305 ∷ [])
    -- equal frequencies: a step is enough, down for the others, up for the one chosen
    ∷ case (three 0x3f800000 0x3f800000 0x3f800000) 0 11 Early (move 0 Up 1 ∷ move 1 Down 1 ∷ move 2 Down 1 ∷ [])
    ∷ case (three 0x3f800000 0x3f800000 0x3f800000) 0 11 Late (move 0 Down 1 ∷ move 1 Down 1 ∷ move 2 Up 1 ∷ [])
    -- all zero: none can go below the one chosen
    ∷ case (three 0 0 0) 0 11 Early (move 0 Up 1 ∷ [])
    ∷ case (three 0 0 0) 0 11 Late (move 2 Up 1 ∷ [])
    -- the greatest frequency beside the same: only where the other is ahead could the one chosen go up, and it is not
    ∷ case (three 0x7f7fffff 0x7f7fffff 0) 0 7 Early (move 1 Down 1 ∷ [])
    ∷ case (three 0x7f7fffff 0x7f7fffff 0) 0 8 Late (move 0 Down 1 ∷ [])
    -- the greatest frequency on one side only: it can be reached from behind it early, from before it late
    ∷ case (three 0x7f7fffff 0x7f7ffffe 0) 0 7 Early (move 0 Down 1 ∷ move 1 Up 1 ∷ [])
    ∷ case (three 0x7f7fffff 0x7f7ffffe 0) 0 8 Late (move 0 Down 2 ∷ [])
    ∷ case (three 0x7f7ffffe 0x7f7fffff 0) 0 7 Early (move 1 Down 2 ∷ [])
    ∷ case (three 0x7f7ffffe 0x7f7fffff 0) 0 8 Late (move 0 Up 1 ∷ move 1 Down 1 ∷ [])
    -- one block, and one open block of three: nothing moves the cut
    ∷ case (block 9 0x3f800000 ∷ []) 0 8 Early []
    ∷ case (block 9 0x3f800000 ∷ []) 0 8 Late []
    ∷ case (three 0x3f800000 0 0x3f800000) 4 7 Early []
    ∷ case (three 0x3f800000 0 0x3f800000) 4 7 Late []
    -- the second least on both sides of the least: the one ahead is a step nearer
    ∷ case (three 12 10 12) 0 11 Early (move 0 Down 2 ∷ move 1 Up 2 ∷ move 2 Down 3 ∷ [])
    ∷ case (three 12 10 12) 0 11 Late (move 1 Up 2 ∷ move 2 Down 2 ∷ move 0 Down 3 ∷ [])
    ∷ []

cases_computed : map (λ (c : Case). cut_moves c.blocks (inst c.after) (inst c.before) c.side) cases
    ≡ map (λ (c : Case). c.moves) cases
unfolding cut_moves of_bits
cases_computed = refl
