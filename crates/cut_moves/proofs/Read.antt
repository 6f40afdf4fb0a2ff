-- The rows that a list's bytes hold are read back: `moves_read_lem`. Assumes nothing.
use Prim.Native.Nat.{ℕ, ◌-◌}
use native.Mathlib.Nat.{zero-add}
use native.Mathlib.Omega.{arith}
use mathlib.Core.Path.{◌≡◌, refl, sym, ap, ◌∙◌}
use mathlib.Core.Bool.{cond}
use mathlib.Core.List.{List, [], ◌∷◌, ◌++◌, map}
use lib.Dec.{eqb}
use lib.ListN.{length, get_or, replicate, get_or-append}
use Rattle.definition.specs.declared.CutMove.{CutMove}
use Rattle.definition.specs.declared.Way.{Way}
use Rattle.definition.specs.declared.Way.TheVariants.{Up, Down}
use Rattle.definition.specs.Types.{done}
use Rattle.definition.specs.CutMoves.{way_number}
use Rattle.words.specs.Parts.{pad}
use Rattle.words.specs.RowsAt.{rows_at, map-rows-at}
use Rattle.words.specs.Words.{words_of, bytes_of}
use Rattle.words.specs.Laws.{words_append, words_bytes, length_bytes}
use Rattle.cut_moves.specs.Rows.{Row, row_of, row_words}
use Rattle.cut_moves.proofs.Tables.{length_row_words, rows_read}
use Rattle.cut_moves.specs.Answer.{move_words, list_of}
use Rattle.cut_moves.specs.Promised.{move_read, moves_read}
use Rattle.cut_moves.proofs.Lists.{to_row, move_rows, move_words_rows, length_rows}

-- a row as a move
from_row : Row → CutMove
from_row r = record { block = record { 0 = r.block }; way = cond (eqb r.way 0) Up Down; steps = r.steps }

way_read : (w : Way) → cond (eqb (way_number w) 0) Up Down ≡ w
way_read Up = refl
way_read Down = refl

read_back : (ms : List CutMove) → map from_row (move_rows ms) ≡ ms
unfolding from_row move_rows to_row
read_back [] = refl
read_back (m ∷ ms) = λ x. record { block = m.block; way = way_read m.way x; steps = m.steps } ∷ read_back ms x

rows_there : (w z : List ℕ) (rs : List Row) → w ≡ row_words rs → rows_at row_of (w ++ z) 0 3 (length rs) ≡ rs
rows_there w z rs e =
    rows_read (w ++ z) 0 rs
    (λ k l.
    rw zero-add
    (get_or-append w z 0 k (omega (arith, ap length e, length_row_words rs)) ∙ ap (λ (v : List ℕ). get_or v k 0) e))

pub moves_read_lem : (room : ℕ) (ms : List CutMove) → moves_read (list_of room (done ms)) (length ms) ≡ ms
unfolding moves_read move_read list_of pad row_of from_row
moves_read_lem room ms =
    let w = move_words ms in
    let z : List ℕ = replicate (room - length (bytes_of w)) 0 in
    let e : words_of (bytes_of w ++ z) ≡ w ++ words_of z =
    words_append (bytes_of w) z (omega (arith, length_bytes w)) ∙ ap (λ (v : List ℕ). v ++ words_of z) (words_bytes w) in
    ap (λ (v : List ℕ). rows_at move_read v 0 3 (length ms)) e
    ∙ sym (map-rows-at from_row row_of (w ++ words_of z) 0 3 (length ms))
    ∙ ap (λ (k : ℕ). map from_row (rows_at row_of (w ++ words_of z) 0 3 k)) (sym (length_rows ms))
    ∙ ap (map from_row) (rows_there w (words_of z) (move_rows ms) (move_words_rows ms))
    ∙ read_back ms
