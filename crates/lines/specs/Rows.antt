-- The text of a record by the number of its kind and the words of its row. Assumes nothing.
use Rattle.std.specs.Prelude.{Bool, true, false, cond, List, [], ◌∷◌, ◌++◌, ℕ, ◌+◌, ltb, eqb, get_or}
use Rattle.std.specs.Prelude.{Option, Some, None}
use Rattle.definition.specs.Text.{decimal, eight_digits}
use Rattle.definition.specs.JobSheet.{end, spelling, all_words}

-- the word of a kind; what is no kind counts as the end
unfoldable pub word_text : ℕ → List ℕ
word_text key = spelling (get_or all_words key end)

-- whether field j of a kind is a mask or a float
unfoldable pub bits_at : ℕ → ℕ → Bool
bits_at key j = cond (eqb key 0) (ltb 0 j) (cond (eqb key 2) (ltb j 2) (cond (eqb key 4) (eqb j 1) false))

unfoldable pub value_text : Bool → ℕ → List ℕ
value_text true v = eight_digits v
value_text false v = decimal v

-- the texts of fields, the first of which is field j
unfoldable pub row_fields : ℕ → ℕ → List ℕ → List (List ℕ)
unfolding bits_at value_text
row_fields key j [] = []
row_fields key j (v ∷ vs) = value_text (bits_at key j) v ∷ row_fields key (j + 1) vs

-- each behind a tab
abbrev pub tabs : List (List ℕ) → List ℕ
tabs [] = []
tabs (f ∷ fs) = 9 ∷ (f ++ tabs fs)

unfoldable pub row_text : ℕ → List ℕ → List ℕ
unfolding row_fields
row_text key vs = tabs (row_fields key 0 vs)

-- one field more, or none, and the line's end
abbrev pub more_fields : Option ℕ → List (List ℕ)
more_fields (Some k) = decimal k ∷ []
more_fields None = []

unfoldable pub more_text : Option ℕ → List ℕ
more_text more = tabs (more_fields more) ++ (10 ∷ [])

unfoldable pub line_text : ℕ → List ℕ → Option ℕ → List ℕ
unfolding word_text row_text more_text
line_text key vs more = word_text key ++ (row_text key vs ++ more_text more)
