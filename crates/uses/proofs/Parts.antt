-- A list that is split has the uses of both sides. Assumes nothing.
use mathlib.Core.Path.{◌≡◌, ap, ◌∙◌}
use mathlib.Core.List.{List, ◌++◌}
use Prim.Native.Nat.{ℕ, ◌+◌, ◌-◌, ◌*◌, ◌≤◌}
use native.Mathlib.Omega.{arith}
use Rattle.words.specs.RowsAt.{rows_at, rows_at_append}
use Rattle.words.specs.Words.{words_of}
use Rattle.uses.specs.Rows.{use_row, uses_at}
use Rattle.uses.specs.declared.lists.UseList.{UseList}
use Rattle.uses.specs.Lists.{table_of, uses_of_list, left_list, right_list}

pub split_uses : (j a : List ℕ) (l : UseList) (k : ℕ) → k ≤ l.count → uses_of_list j a l ≡ uses_of_list j a (left_list l k) ++ uses_of_list j a (right_list l k)
unfolding uses_of_list left_list right_list uses_at
split_uses j a l k h =
    let n : l.count ≡ k + (l.count - k) = omega arith in
    let f : l.first * 6 + k * 6 ≡ (l.first + k) * 6 = omega arith in
    ap (λ (c : ℕ). rows_at use_row (words_of (table_of j a l.source)) (l.first * 6) 6 c) n
    ∙ rows_at_append use_row (words_of (table_of j a l.source)) (l.first * 6) 6 k (l.count - k)
    ∙ ap (λ (at : ℕ). rows_at use_row (words_of (table_of j a l.source)) (l.first * 6) 6 k ++ rows_at use_row (words_of (table_of j a l.source)) at 6 (l.count - k)) f
