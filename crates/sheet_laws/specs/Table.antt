-- The table that the records of a sheet fill, and whether one of its parts was too small. Assumes nothing.
use Rattle.std.specs.Prelude.{List, [], ◌∷◌, Bool, true, false, cond, ℕ, ◌+◌, get_or, set, replicate, ltb}
use Rattle.definition.specs.JobSheet.{Record, word_number}
use Rattle.sheet_rules.specs.Rules.{low_of}
use Rattle.sheet_rules.specs.Places.{limit_of, count_at, row_at, place_of, tail_at, tail_of, up_of}

pub record Filled : Type 0 where
  pub over : Bool
  pub out : List ℕ

abbrev pub filled : Bool → List ℕ → Filled
filled o t = record { over = o; out = t }

-- the fields of a row from field n on
unfoldable pub puts : ℕ → ℕ → ℕ → List ℕ → List ℕ → List ℕ
puts key row n [] out = out
puts key row n (v ∷ vs) out = puts key row (up_of n) vs (set out (place_of key row n) (low_of v))

-- the number of the field behind them
unfoldable pub ups : ℕ → List ℕ → ℕ
ups n [] = n
ups n (v ∷ vs) = ups (up_of n) vs

-- a row's last word and its kind's count
unfoldable pub counted : ℕ → ℕ → ℕ → Bool → List ℕ → Filled
counted key row n over out =
    cond (ltb (get_or out (count_at key) 0) (limit_of key))
    (filled over (set (set out (tail_at key row) (tail_of key n (get_or out 9 0))) (count_at key) (get_or out (count_at key) 0 + 1)))
    (filled true (set out (tail_at key row) (tail_of key n (get_or out 9 0))))

abbrev pub keyed : Record → ℕ
keyed r = word_number r.word

-- the row that a record goes to
abbrev pub row_of : List ℕ → ℕ → ℕ
row_of out key = row_at key (get_or out (count_at key) 0)

unfoldable pub put : Filled → Record → Filled
put f r =
    counted (keyed r) (row_of f.out (keyed r)) (ups 1 r.fields) f.over
    (puts (keyed r) (row_of f.out (keyed r)) 1 r.fields f.out)

unfoldable pub fill : Filled → List Record → Filled
fill f [] = f
fill f (r ∷ rs) = fill (put f r) rs

-- nothing yet
abbrev pub blank : ℕ → Filled
blank n = filled false (replicate n 0)
