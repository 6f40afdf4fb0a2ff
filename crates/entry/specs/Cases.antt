-- Entry numbers of slices, by computation. Assumes nothing.
use Rattle.std.specs.Prelude.{ℕ, ◌≡◌, refl, List, [], ◌∷◌, ◌++◌, set}
use Rattle.std.specs.Float.Ieee.{of_bits}
use Rattle.words.specs.RowsAt.{rows_at}
use Rattle.words.specs.Words.{words_of, bytes_of}
use Rattle.reginfo.specs.Rows.{bank_row, memory_row, class_row, classes_at}
use Rattle.function.specs.Blocks.{block_row}
use Rattle.values.specs.ValueRows.{value_row, values_at, vgroup_row, vgroups_at}
use Rattle.values.specs.OperandRows.{operand_row, operands_at}
use Rattle.hints.specs.Hints.{hint_at}
use Rattle.uses.specs.Rows.{raw_kind, raw_row}
use Rattle.job.specs.Layout.{options_row, segment_of}
use Rattle.job.specs.Job.{job_by, raw_job}
use Rattle.entry.specs.Number.{entry_number}

-- one bank, one class, one block of one instruction, one value, one hint, one segment and one use of it
abbrev small_job : List ℕ
small_job =
    (1 ∷ 1 ∷ 0 ∷ 1 ∷ 1 ∷ 0 ∷ 0 ∷ 1 ∷ 1 ∷ 1 ∷ [])
    ++ (0 ∷ 0x3f80_0000 ∷ 0x3f80_0000 ∷ 0x3f80_0000 ∷ [])
    ++ (0 ∷ [])
    ++ (1 ∷ 0x3f80_0000 ∷ 1 ∷ 0 ∷ [])
    ++ (1 ∷ 0x3f80_0000 ∷ [])
    ++ (0 ∷ 0 ∷ 0 ∷ [])
    ++ (0 ∷ 0 ∷ 0 ∷ [])
    ++ (0 ∷ 0 ∷ 4 ∷ 0 ∷ 0 ∷ [])
    ++ (5 ∷ 0 ∷ 0 ∷ 0 ∷ 0 ∷ 0 ∷ [])

-- the number where word i is w, and where word j is x too
abbrev number_with : ℕ → ℕ → ℕ
unfolding entry_number bytes_of
number_with i w = entry_number (bytes_of (set small_job i w))

abbrev number_with₂ : ℕ → ℕ → ℕ → ℕ → ℕ
unfolding entry_number bytes_of
number_with₂ i w j x = entry_number (bytes_of (set (set small_job i w) j x))

-- k at its limit and above it, a class's spillslots off their list, an unknown top class, an empty block, a hint above the count, a segment past the last instruction, a conflict
numbers : number_with 10 65535 ∷ number_with 18 2 ∷ number_with 10 65536 ∷ number_with 14 1 ∷ number_with 19 0 ∷ number_with 25 2 ∷ number_with 29 5 ∷ number_with 32 3 ∷ []
    ≡ 0 ∷ 1 ∷ 2 ∷ 3 ∷ 4 ∷ 5 ∷ 6 ∷ 7 ∷ []
unfolding entry_number words_of bytes_of rows_at raw_job job_by bank_row memory_row class_row classes_at block_row value_row values_at vgroup_row vgroups_at operand_row operands_at hint_at raw_kind raw_row options_row segment_of of_bits
numbers = refl

-- "lowest first"
lowest : number_with₂ 18 2 10 65536 ∷ number_with₂ 14 1 10 65536 ∷ number_with₂ 32 3 25 2 ∷ [] ≡ 1 ∷ 2 ∷ 5 ∷ []
unfolding entry_number words_of bytes_of rows_at raw_job job_by bank_row memory_row class_row classes_at block_row value_row values_at vgroup_row vgroups_at operand_row operands_at hint_at raw_kind raw_row options_row segment_of of_bits
lowest = refl
