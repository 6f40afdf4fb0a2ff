-- The answer on what would move a cut, for any bytes and numbers: through the definition's `find_moves`.
-- Assumes nothing.
use Rattle.std.specs.Prelude.{ℕ, ◌/◌, cond, List, [], ◌∷◌, eqb, length, replicate, Result, Err}
use Rattle.definition.specs.declared.CutMove.{CutMove}
use Rattle.definition.specs.declared.Refusal.{Refusal}
use Rattle.definition.specs.declared.Refusal.TheVariants.{NotARecord}
use Rattle.definition.specs.declared.Side.{Side}
use Rattle.definition.specs.Types.{Out, done, refused, inst, number_of}
use Rattle.definition.specs.Entry.{lowest_of, insts_of, every, block_ok}
use Rattle.definition.specs.CutMoves.{moves_tests, find_moves, way_number}
use Rattle.words.specs.Parts.{pad}
use Rattle.words.specs.Words.{bytes_of}
use Rattle.find_cut.specs.Answer.{blocks_in, side_named, readable, unless}
use Rattle.cut_moves.specs.declared.MovesEnd.{MovesEnd}

-- a row of three words for each move: block, way, steps
unfoldable pub move_words : List CutMove → List ℕ
move_words [] = []
move_words (m ∷ ms) = m.block.0 ∷ way_number m.way ∷ m.steps ∷ move_words ms

-- the answer, the list having as many places as it was given
unfoldable pub moves_at : List ℕ → ℕ → ℕ → ℕ → ℕ → Out (List CutMove)
unfolding find_moves side_named
moves_at s after before side places =
    cond (readable s side) (find_moves (blocks_in s) (inst after) (inst before) (side_named side) places)
    (refused NotARecord)

-- the list having `room` bytes, twelve to a place
abbrev pub moves_out : List ℕ → ℕ → ℕ → ℕ → ℕ → Out (List CutMove)
moves_out s after before side room = moves_at s after before side (room / 12)

-- number 0 and how many rows there are; or the refusal's number, and 0
unfoldable pub end_of : Out (List CutMove) → MovesEnd
end_of (done ms) = record { number = 0; count = length ms }
end_of (refused r) = record { number = number_of r; count = 0 }

-- the list's bytes: the rows, and zeros behind them; or zeros
unfoldable pub list_of : ℕ → Out (List CutMove) → List ℕ
unfolding move_words pad bytes_of
list_of room (done ms) = pad room (bytes_of (move_words ms))
list_of room (refused r) = replicate room 0

unfoldable pub moves_end : List ℕ → ℕ → ℕ → ℕ → ℕ → MovesEnd
unfolding moves_at end_of
moves_end s after before side room = end_of (moves_out s after before side room)

unfoldable pub list_left : List ℕ → ℕ → ℕ → ℕ → ℕ → List ℕ
unfolding moves_at list_of
list_left s after before side room = list_of room (moves_out s after before side room)

-- ---- within the code

-- what all the tests of a call say: its side, or the first refusal
unfoldable pub moves_admission : List ℕ → ℕ → ℕ → ℕ → ℕ → Result Side Refusal
unfolding lowest_of insts_of every block_ok side_named
moves_admission s after before side places =
    cond (readable s side)
    (unless (lowest_of (moves_tests (blocks_in s) (inst after) (inst before) places)) (side_named side)) (Err NotARecord)

-- block i's row, c being the chosen block; none for 0 steps
unfoldable pub move_row : ℕ → ℕ → ℕ → List ℕ
move_row i c steps = cond (eqb steps 0) [] (i ∷ cond (eqb i c) 0 1 ∷ steps ∷ [])
