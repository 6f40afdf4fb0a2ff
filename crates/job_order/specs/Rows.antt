-- The row that a cursor stands at. Assumes nothing.
use Rattle.std.specs.Prelude.{List, ℕ, take, drop}
use Rattle.sheet_rules.specs.Places.{row_at}
use Rattle.job_pages.specs.Cursors.{Cursor, shown_row, field_count, first_field, behind_row}

-- n words from word a on
abbrev pub words_from : List ℕ → ℕ → ℕ → List ℕ
words_from T a n = take n (drop a T)

-- its first word
abbrev pub row_start : Cursor → ℕ
row_start c = row_at c.key (shown_row c)

-- the fields of its record
abbrev pub fields_at : List ℕ → Cursor → List ℕ
fields_at T c = words_from T (first_field c.key (row_start c)) (field_count T c.key (row_start c))

-- the cursor behind it
abbrev pub behind_at : List ℕ → Cursor → Cursor
behind_at T c = behind_row T c (row_start c)
