-- Rows of hints, and the search by key. Assumes nothing.
use Rattle.std.specs.Prelude.{◌≡◌, ℕ, suc, ◌+◌, Bool, true, false, ◌&&◌, ◌||◌, List, [], ◌∷◌, ltb, eqb, get_or}
use Rattle.std.proofs.Common.{add-zero, arith}
use Rattle.words.specs.RowsAt.{rows_at, Reads}
use Rattle.words.specs.declared.rows.lent.Rows.{Rows}
use Rattle.words.specs.Rows.{row_words}
use Rattle.definition.specs.declared.Value.{Value}
use Rattle.definition.specs.declared.Hint.{Hint}
use Rattle.definition.specs.Types.{val, inst}
use Rattle.definition.specs.Hints.{as_key}

-- the hint whose row (value, instruction, side) begins at word i: incoming if the side is 1. The job's own tests refuse a side above 1.
unfoldable pub hint_at : List ℕ → ℕ → Hint
hint_at W i = record { value = val (get_or W i 0); inst = inst (get_or W (i + 1) 0); incoming = eqb (get_or W (i + 2) 0) 1 }

-- the hints of lent rows
abbrev pub hint_rows : Rows 3 → List Hint
hint_rows t = rows_at hint_at (row_words t) t.at 3 t.n

-- h is sorted before key k of value v
unfoldable pub key_below : Value → ℕ → Hint → Bool
key_below v k h = ltb h.value.0 v.0 || (eqb h.value.0 v.0 && ltb (as_key h) k)

-- how many of the hints are before key k of value v, where none behind the first that is not is
unfoldable pub first_hint : Value → ℕ → List Hint → ℕ
unfolding key_below
first_hint v k [] = 0
first_hint v k (h ∷ hs) = elim (key_below v k h) [ true ↦ suc (first_hint v k hs) | false ↦ 0 ]

-- a row is its three words
pub hint_reads : Reads 3 hint_at
unfolding hint_at
hint_reads W W' i k h =
    let a : get_or W i 0 ≡ get_or W' k 0 = rw (← add-zero i, ← add-zero k) (h 0 (omega arith)) in
    rw (a, h 1 (omega arith), h 2 (omega arith))
