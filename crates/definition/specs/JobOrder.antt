-- The order on whole jobs: two job sheets that pass the entry tests are compared in the second form, and what `order`
-- writes.
-- Assumes nothing.
use Rattle.std.specs.Prelude.{ℕ, Bool, true, false, cond, List, [], ◌∷◌, ltb, eqb}
use Rattle.std.proofs.Math.Option.{Option, none, some}
use Prim.Native.String.{String}
use Rattle.definition.specs.declared.Order.{Order}
use Rattle.definition.specs.declared.Order.TheVariants.{Before, Same, After}
use Rattle.definition.specs.Text.{line}
use Rattle.definition.specs.JobSheet.{Word, opt, bank, class, reg, block, value, vgroup, operand, hint, use', seg, end}
use Rattle.definition.specs.JobSheet.{Record}
use Rattle.definition.specs.SheetForms.{is_second, records_in, verdict, SheetOut, given', refused', given_unless}
use Rattle.definition.specs.SheetForms.{refusal_text}
use Rattle.definition.specs.Conversion.{moved_records}

-- ---- "The answer is before, same or after."

-- the word of each
abbrev pub order_word : Order → String
order_word Before = "before"
order_word Same = "same"
order_word After = "after"

-- "turning the pair turns the answer"
abbrev pub turned : Order → Order
turned Before = After
turned Same = Same
turned After = Before

-- ---- "line by line from the top"

-- "At the first lines that differ": what comes first decides, and what comes next only where that is the same
abbrev pub decided : Order → Order → Order
decided Before o = Before
decided Same o = o
decided After o = After

-- Two lists, place by place. Of two that are the same so far, the one that ends goes first: "a missing field before any
-- field".
module _ {A : Type 0} (by : A → A → Order) where
  unfoldable pub by_places : List A → List A → Order
  by_places [] [] = Same
  by_places [] (y ∷ ys) = Before
  by_places (x ∷ xs) [] = After
  by_places (x ∷ xs) (y ∷ ys) = decided (by x y) (by_places xs ys)

-- "numbers by size, floats and masks by bits": a field is a number, that of a float or a mask its bits
abbrev pub by_number : ℕ → ℕ → Order
by_number a b = cond (ltb a b) Before (cond (eqb a b) Same After)

-- "record kinds go in the order in which 01 names them, use lines before seg lines and `end` last"
abbrev pub kind_place : Word → ℕ
kind_place opt = 0
kind_place bank = 1
kind_place class = 2
kind_place reg = 3
kind_place block = 4
kind_place value = 5
kind_place vgroup = 6
kind_place operand = 7
kind_place hint = 8
kind_place use' = 9
kind_place seg = 10
kind_place end = 11

-- by kind; "within a kind it goes field by field"
abbrev pub by_line : Record → Record → Order
by_line r s = decided (by_number (kind_place r.word) (kind_place s.word)) (by_places by_number r.fields s.fields)

-- the lines of two jobs
unfoldable pub by_lines : List Record → List Record → Order
unfolding by_places
by_lines rs ss = by_places by_line rs ss

-- ---- "in the second form"

-- the records of a sheet, whose implied fields are written in where it is of the first form
abbrev pub in_second : Bool → List Record → List Record
in_second true rs = rs
in_second false rs = moved_records true rs

abbrev pub second_lines : Bool → Option (List Record) → List Record
second_lines second none = []
second_lines second (some rs) = in_second second rs

-- the lines of a sheet that passes the entry tests, in the second form; or its refusal
unfoldable pub shelved : List ℕ → SheetOut (List Record)
unfolding is_second records_in verdict moved_records
shelved bs = given_unless (verdict bs) (second_lines (is_second bs) (records_in bs))

-- ---- "Where a job doesn't pass, its number is given, the first job's if neither does."

abbrev pub compared : SheetOut (List Record) → SheetOut (List Record) → SheetOut Order
compared (refused' r) y = refused' r
compared (given' rs) (refused' r) = refused' r
compared (given' rs) (given' ss) = given' (by_lines rs ss)

-- the answer to two sheets
unfoldable pub order_of : List ℕ → List ℕ → SheetOut Order
unfolding shelved by_lines
order_of a b = compared (shelved a) (shelved b)

-- ---- what `order` writes

-- the word, or the line of the refusal
abbrev pub answered : SheetOut Order → List ℕ
answered (given' o) = line (order_word o) []
answered (refused' r) = refusal_text r

unfoldable pub ordered_text : List ℕ → List ℕ → List ℕ
unfolding order_of
ordered_text a b = answered (order_of a b)
