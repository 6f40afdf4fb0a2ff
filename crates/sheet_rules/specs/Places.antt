-- Where the records of a job sheet are stored. Assumes nothing.
use Rattle.std.specs.Prelude.{List, [], ◌∷◌, cond, ℕ, ◌+◌, ◌-◌, ◌*◌, get_or, ltb, eqb}

unfoldable pub limits : List ℕ
limits = 1 ∷ 8 ∷ 32 ∷ 256 ∷ 512 ∷ 1024 ∷ 256 ∷ 1024 ∷ 1024 ∷ 1024 ∷ 4096 ∷ 1 ∷ []

-- each table begins where the one before it ends
unfoldable pub bases : List ℕ
bases = 10 ∷ 14 ∷ 22 ∷ 150 ∷ 406 ∷ 1430 ∷ 4502 ∷ 6806 ∷ 10902 ∷ 13974 ∷ 19094 ∷ 43670 ∷ []

-- the words in a row
unfoldable pub widths : List ℕ
widths = 4 ∷ 1 ∷ 4 ∷ 1 ∷ 2 ∷ 3 ∷ 9 ∷ 4 ∷ 3 ∷ 5 ∷ 6 ∷ 0 ∷ []

-- the fields in a row
unfoldable pub stored_fields : List ℕ
stored_fields = 4 ∷ 1 ∷ 4 ∷ 1 ∷ 2 ∷ 3 ∷ 8 ∷ 4 ∷ 3 ∷ 4 ∷ 6 ∷ 0 ∷ []

-- the words of all tables
abbrev pub table_words : ℕ
table_words = 43670

abbrev pub nowhere : ℕ
nowhere = 4294967295

unfoldable pub limit_of : ℕ → ℕ
limit_of key = cond (ltb 11 key) 0 (get_or limits key 0)

unfoldable pub base_of : ℕ → ℕ
base_of key = cond (ltb 11 key) 0 (get_or bases key 0)

unfoldable pub width_of : ℕ → ℕ
width_of key = cond (ltb 11 key) 0 (get_or widths key 0)

unfoldable pub stored_of : ℕ → ℕ
stored_of key = cond (ltb 11 key) 0 (get_or stored_fields key 0)

-- the word that counts the records of a kind; opt and end are not counted
unfoldable pub count_at : ℕ → ℕ
count_at key = cond (ltb key 1) nowhere (cond (ltb 10 key) nowhere (key - 1))

-- the first word of row c of a kind of record; nowhere if its table is full
unfoldable pub row_at : ℕ → ℕ → ℕ
row_at key c = cond (ltb c (limit_of key)) (base_of key + c * width_of key) nowhere

-- the word of field n of a row
unfoldable pub place_of : ℕ → ℕ → ℕ → ℕ
place_of key row n =
    cond (ltb row nowhere)
    (cond (ltb (stored_of key) n) nowhere (cond (ltb n 1) nowhere (cond (eqb key 6) (row + n) (row + (n - 1)))))
    nowhere

-- the word of a row that is no field
unfoldable pub tail_at : ℕ → ℕ → ℕ
tail_at key row = cond (ltb row nowhere) (cond (eqb key 6) row (cond (eqb key 9) (row + 4) nowhere)) nowhere

-- what goes there, behind n - 1 fields
unfoldable pub tail_of : ℕ → ℕ → ℕ → ℕ
tail_of key n uses = cond (eqb key 9) uses (cond (ltb n 1) 0 (n - 1))

-- one field more; ten stands for ten or more
unfoldable pub up_of : ℕ → ℕ
up_of n = cond (ltb n 10) (n + 1) 10
