-- Stored answers, in frames: a line of two numbers of eight digits, parted by a tab, then as many bytes of a sheet and of its answer. Assumes nothing.
use Rattle.std.specs.Prelude.{Bool, ◌&&◌, cond, List, ℕ, zero, suc, ◌+◌, ◌*◌, leb, ltb, eqb, length, get_or, take, drop}
use Rattle.definition.specs.Text.{digit_of, same, tab, line_feed}
use Rattle.definition.specs.SheetForms.{vregs_of}

-- the number that k digits from `at` on spell behind v; where one is none, more than any room
unfoldable pub spelled : List ℕ → ℕ → ℕ → ℕ → ℕ
spelled bs at zero v = v
spelled bs at (suc k) v = cond (ltb 9 (digit_of (get_or bs at 0))) 100000000 (spelled bs (suc at) k (v * 10 + digit_of (get_or bs at 0)))

abbrev pub sheet_size : List ℕ → ℕ
sheet_size bs = spelled bs 0 8 0

abbrev pub answer_size : List ℕ → ℕ
answer_size bs = spelled bs 9 8 0

abbrev pub frame_size : List ℕ → ℕ
frame_size bs = 18 + sheet_size bs + answer_size bs

-- a line that names a sheet of up to 262,144 bytes and an answer of up to 524,288
abbrev pub is_head : List ℕ → Bool
is_head bs = eqb (get_or bs 8 0) tab && eqb (get_or bs 17 0) line_feed && leb (sheet_size bs) 262144 && leb (answer_size bs) 524288

-- bytes that begin with a frame
abbrev pub is_frame : List ℕ → Bool
is_frame bs = is_head bs && leb (frame_size bs) (length bs)

abbrev pub frame_sheet : List ℕ → List ℕ
frame_sheet bs = take (sheet_size bs) (drop 18 bs)

abbrev pub frame_answer : List ℕ → List ℕ
frame_answer bs = take (answer_size bs) (drop (18 + sheet_size bs) bs)

-- its answer is the definition's to its sheet
abbrev pub agrees : List ℕ → Bool
agrees bs = same (frame_answer bs) (vregs_of (frame_sheet bs))

abbrev pub past_frame : List ℕ → List ℕ
past_frame bs = drop (frame_size bs) bs
