-- Slices on and off their shape, by computation. Assumes nothing.
use Rattle.std.specs.Prelude.{ℕ, ◌≡◌, refl, true, false, List, [], ◌∷◌, ◌++◌, set}
use Rattle.words.specs.RowsAt.{rows_at}
use Rattle.words.specs.Words.{words_of, bytes_of}
use Rattle.job_shape.specs.Shape.{shape_ok}

-- one bank, one class, one block of one instruction, one value, one segment and one use of it
abbrev small_job : List ℕ
small_job =
    (1 ∷ 1 ∷ 0 ∷ 1 ∷ 1 ∷ 0 ∷ 0 ∷ 0 ∷ 1 ∷ 1 ∷ [])
    ++ (0 ∷ 0x3f80_0000 ∷ 0x3f80_0000 ∷ 0x3f80_0000 ∷ [])
    ++ (0 ∷ [])
    ++ (1 ∷ 0x3f80_0000 ∷ 1 ∷ 0 ∷ [])
    ++ (1 ∷ 0x3f80_0000 ∷ [])
    ++ (0 ∷ 0 ∷ 0 ∷ [])
    ++ (0 ∷ 0 ∷ 4 ∷ 0 ∷ 0 ∷ [])
    ++ (5 ∷ 0 ∷ 0 ∷ 0 ∷ 0 ∷ 0 ∷ [])

on_shape : shape_ok (bytes_of small_job) ≡ true
unfolding shape_ok words_of bytes_of rows_at
on_shape = refl

byte_more : shape_ok (bytes_of small_job ++ (0 ∷ [])) ≡ false
unfolding shape_ok words_of bytes_of rows_at
byte_more = refl

word_more : shape_ok (bytes_of (small_job ++ (0 ∷ []))) ≡ false
unfolding shape_ok words_of bytes_of rows_at
word_more = refl

-- word 18 is the class's spillslots, 28 the use count of the segment, 29 the kind of the use
choice_off : shape_ok (bytes_of (set small_job 18 2)) ≡ false
unfolding shape_ok words_of bytes_of rows_at
choice_off = refl

kind_off : shape_ok (bytes_of (set small_job 29 10)) ≡ false
unfolding shape_ok words_of bytes_of rows_at
kind_off = refl

count_off : shape_ok (bytes_of (set small_job 28 1)) ≡ false
unfolding shape_ok words_of bytes_of rows_at
count_off = refl

-- a use and no segment
no_segment : shape_ok (bytes_of ((1 ∷ 1 ∷ 0 ∷ 1 ∷ 0 ∷ 0 ∷ 0 ∷ 0 ∷ 0 ∷ 1 ∷ 0 ∷ 0 ∷ 0 ∷ 0 ∷ []) ++ (0 ∷ 1 ∷ 0 ∷ 1 ∷ 0 ∷ 1 ∷ 0 ∷ 5 ∷ 0 ∷ 0 ∷ 0 ∷ 0 ∷ 0 ∷ []))) ≡ false
unfolding shape_ok words_of bytes_of rows_at
no_segment = refl
