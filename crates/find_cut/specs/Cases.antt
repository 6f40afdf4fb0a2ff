-- Document 01's marked cases F and G, and the order of the refusals, computed over bytes.
use Rattle.std.specs.Prelude.{◌≡◌, refl, List, [], ◌∷◌, ℕ}
use Rattle.std.specs.Float.Ieee.{lt, of_bits}
use Rattle.definition.specs.Place.{total}
use Rattle.definition.specs.SplitPlacement.{freq_at, starts, ends, keep, earliest, latest, early_cut, late_cut, late_from}
use Rattle.definition.specs.Entry.{insts_of, every, block_ok, lowest_of, cut_to, find_cut}
use Rattle.words.specs.RowsAt.{rows_at}
use Rattle.words.specs.Words.{words_of, bytes_of}
use Rattle.function.specs.Blocks.{block_row}
use Rattle.find_cut.specs.declared.Cut.{Cut}
use Rattle.find_cut.specs.Answer.{side_named, cut_out, cut_of, cut_answer}

abbrev at : ℕ → Cut
at i = record { number = 0; inst = i }

abbrev number : ℕ → Cut
number k = record { number = k; inst = 0 }

-- frequencies 3, 2, 2; the uses are in the first block and deep in the last
abbrev F : List ℕ
F = bytes_of (4 ∷ 0x40400000 ∷ 4 ∷ 0x40000000 ∷ 8 ∷ 0x40000000 ∷ [])

case_f_early : cut_answer F 1 13 0 ≡ at 4
unfolding cut_answer cut_out cut_of side_named find_cut cut_to lowest_of insts_of total every block_ok block_row rows_at words_of bytes_of early_cut late_cut freq_at starts ends keep earliest latest late_from lt of_bits
case_f_early = refl

case_f_late : cut_answer F 1 13 1 ≡ at 13
unfolding cut_answer cut_out cut_of side_named find_cut cut_to lowest_of insts_of total every block_ok block_row rows_at words_of bytes_of early_cut late_cut freq_at starts ends keep earliest latest late_from lt of_bits
case_f_late = refl

-- frequencies 3, 2, 1; `before` is the start of the last block
abbrev G : List ℕ
G = bytes_of (4 ∷ 0x40400000 ∷ 4 ∷ 0x40000000 ∷ 8 ∷ 0x3f800000 ∷ [])

case_g_early : cut_answer G 1 8 0 ≡ at 8
unfolding cut_answer cut_out cut_of side_named find_cut cut_to lowest_of insts_of total every block_ok block_row rows_at words_of bytes_of early_cut late_cut freq_at starts ends keep earliest latest late_from lt of_bits
case_g_early = refl

-- an empty block and a NaN beside too many instructions, the ends out of order: 1 with a side off its list, else 2
abbrev worst : List ℕ
worst = bytes_of (0 ∷ 0x40400000 ∷ 4294967295 ∷ 0x7fc00000 ∷ [])

no_side : cut_answer worst 5 1 2 ≡ number 1
unfolding cut_answer cut_out cut_of words_of bytes_of
no_side = refl

too_long : cut_answer worst 5 1 0 ≡ number 2
unfolding cut_answer cut_out cut_of find_cut cut_to lowest_of insts_of total every block_ok block_row rows_at words_of bytes_of of_bits
too_long = refl

no_block : cut_answer [] 0 1 0 ≡ number 1
unfolding cut_answer cut_out cut_of words_of
no_block = refl

empty_block : cut_answer (bytes_of (4 ∷ 0x40400000 ∷ 0 ∷ 0x40400000 ∷ [])) 0 1 0 ≡ number 4
unfolding cut_answer cut_out cut_of find_cut cut_to lowest_of insts_of total every block_ok block_row rows_at words_of bytes_of of_bits
empty_block = refl

minus_zero : cut_answer (bytes_of (4 ∷ 0x80000000 ∷ [])) 0 1 0 ≡ number 4
unfolding cut_answer cut_out cut_of find_cut cut_to lowest_of insts_of total every block_ok block_row rows_at words_of bytes_of of_bits
minus_zero = refl

past_the_end : cut_answer F 1 16 0 ≡ number 4
unfolding cut_answer cut_out cut_of find_cut cut_to lowest_of insts_of total every block_ok block_row rows_at words_of bytes_of of_bits
past_the_end = refl
