-- The words of an operand's row. Assumes nothing.
use mathlib.Core.Path.{◌≡◌, sym, ap, ◌∙◌}
use mathlib.Core.List.{List}
use Prim.Native.Nat.{ℕ, ◌+◌, ◌*◌, ◌<◌}
use lib.ListN.{length, get_or}
use Rattle.words.specs.RowsAt.{get_or_rows_at, length_rows_at}
use Rattle.definition.specs.declared.Operand.{Operand}
use Rattle.values.specs.OperandRows.{operand_row, operands_at, no_operand, op_at}

pub long : (T : List ℕ) (at n : ℕ) → length (operands_at T at n) ≡ n
unfolding operands_at
long T at n = length_rows_at operand_row T at 4 n

-- operand k from its row
pub row_at : (T : List ℕ) (at n k : ℕ) → k < n → operand_row T (at + k * 4) ≡ op_at (operands_at T at n) k
unfolding operands_at
row_at T at n k h = sym (get_or_rows_at operand_row T at 4 n k no_operand h)

pub inst_word : (T : List ℕ) (at n k w : ℕ) → k < n → w ≡ get_or T (at + k * 4) 0 → w ≡ (op_at (operands_at T at n) k).inst.0
unfolding operand_row
inst_word T at n k w h e = e ∙ ap (λ (o : Operand). o.inst.0) (row_at T at n k h)

pub slot_word : (T : List ℕ) (at n k w : ℕ) → k < n → w ≡ get_or T (at + k * 4 + 1) 0 → w ≡ (op_at (operands_at T at n) k).slot
unfolding operand_row
slot_word T at n k w h e = e ∙ ap (λ (o : Operand). o.slot) (row_at T at n k h)
