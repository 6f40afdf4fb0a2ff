-- Sheets in and sheets out, byte for byte, by computation: cases A and J, sheets on both sides of number 1, and the
-- second form on both sides of 1 and 10.
-- Assumes nothing.
use mathlib.Core.Path.{◌≡◌, refl}
use Prim.Native.Nat.{ℕ, ◌+◌}
use Prim.Native.String.{String}
use mathlib.Core.Bool.{cond}
use mathlib.Core.Option.{Option, none, some}
use mathlib.Core.List.{List, [], ◌∷◌, ◌++◌, map}
use lib.Dec.{eqb}
use lib.ListN.{take, drop, set, replicate}
use Rattle.definition.specs.JobSheet.{Record, sheet_of}
use Rattle.definition.specs.Text.{bytes, tab, line_feed}
use Rattle.definition.specs.SheetForms.{vregs_of}

-- "tabs as blanks", and a line feed behind each line
unfoldable pub text : List String → List ℕ
text [] = []
text (l ∷ ls) = map (λ b. cond (eqb b 32) tab b) (bytes l) ++ (line_feed ∷ text ls)

unfoldable pub case_a : List String
case_a =
    "opt 0 3f800000 3f800000 3f800000"
    ∷ "bank 0"
    ∷ "class 00000007 3f800000 1 0"
    ∷ "class 00000002 3f800000 1 0"
    ∷ "class 00000004 3f800000 1 0"
    ∷ "block 2 3f800000"
    ∷ "block 2 3f000000"
    ∷ "value 0 0 0"
    ∷ "seg 0 2 14 0"
    ∷ "use 5 0 0 1"
    ∷ "use 4 3 0 2"
    ∷ "end"
    ∷ []

printed_a : List String
printed_a =
    "vreg 0 0 1 3f000000 - 0 0"
    ∷ "seg 0 2 8 2 own"
    ∷ "use 5 0 0 1"
    ∷ "vreg 1 0 2 3e800000 - 0 0"
    ∷ "seg 0 8 14 1 own"
    ∷ "use 4 3 0 2"
    ∷ "end 2 0"
    ∷ []

case_a_lem : vregs_of (text case_a) ≡ text printed_a
unfolding vregs_of text case_a printed_a
case_a_lem = refl

-- "J: no segments prints `end 0 0`." In A's book.
case_j : List String
case_j =
    "opt 0 3f800000 3f800000 3f800000"
    ∷ "bank 0"
    ∷ "class 00000007 3f800000 1 0"
    ∷ "class 00000002 3f800000 1 0"
    ∷ "class 00000004 3f800000 1 0"
    ∷ "block 2 3f800000"
    ∷ "block 2 3f000000"
    ∷ "value 0 0 0"
    ∷ "end"
    ∷ []

case_j_lem : vregs_of (text case_j) ≡ text ("end 0 0" ∷ [])
unfolding vregs_of text case_j
case_j_lem = refl

-- ---- a sheet with every record, every kind of use that a job may have, and every form of a printed line

unfoldable pub every_record : List String
every_record =
    "opt 1 3f000000 3e800000 3e000000"
    ∷ "bank 0"
    ∷ "bank 3"
    ∷ "class 00000007 3f800000 1 0"
    ∷ "class 00000002 3f800000 1 0"
    ∷ "class 00000004 40000000 1 1"
    ∷ "class 00000008 3f800000 2 0"
    ∷ "reg 0"
    ∷ "reg 1"
    ∷ "block 4 3f800000"
    ∷ "block 4 40000000"
    ∷ "value 0 0 1"
    ∷ "value 0 1 2"
    ∷ "value 0 2 3"
    ∷ "value 1 3 0"
    ∷ "value 1 4 0"
    ∷ "value 0 0 0"
    ∷ "vgroup 3 4"
    ∷ "vgroup 4 3"
    ∷ "operand 2 0 0 3"
    ∷ "operand 6 1 1 3"
    ∷ "hint 0 0 1"
    ∷ "hint 0 5 0"
    ∷ "seg 0 2 26 4"
    ∷ "use 5 0 0 1"
    ∷ "use 4 6 0 2"
    ∷ "seg 5 28 30 1"
    ∷ "use 4 7 0 1"
    ∷ "use 4 7 1 2"
    ∷ "seg 1 2 20 8"
    ∷ "use 0 0 1"
    ∷ "use 1 4 0"
    ∷ "seg 2 0 32 3"
    ∷ "use 8 0 4294967295"
    ∷ "use 2 3 0 1 0 0"
    ∷ "use 9 7"
    ∷ "seg 3 8 26 0"
    ∷ "use 7 2 0 3 0"
    ∷ "use 6 6 1 3 1"
    ∷ "end"
    ∷ []

printed_records : List String
printed_records =
    "vreg 0 0 1 3dcccccd - 0 1"
    ∷ "seg 0 2 16 6 own"
    ∷ "use 5 0 0 1"
    ∷ "vreg 1 0 2 3f000000 - 0 1"
    ∷ "seg 0 16 26 5 own"
    ∷ "use 4 6 0 2"
    ∷ "vreg 2 0 1 7f800000 - 0 0"
    ∷ "seg 5 28 30 1 own"
    ∷ "use 4 7 0 1"
    ∷ "use 3 7"
    ∷ "vreg 3 0 2 40000000 - 0 0"
    ∷ "seg 5 28 30 1 conflict"
    ∷ "use 4 7 1 2"
    ∷ "vreg 4 1 0 3daaaaab - 0 0"
    ∷ "seg 1 2 20 8 own"
    ∷ "use 0 0 1"
    ∷ "use 1 4 0"
    ∷ "vreg 5 2 0 3be38e39 - 0 0"
    ∷ "seg 2 0 32 3 own"
    ∷ "use 8 0 4294967295"
    ∷ "use 2 3 0 1 0 0"
    ∷ "use 9 7"
    ∷ "vreg 6 3 3 7f800000 0 0 0"
    ∷ "seg 3 8 12 2 own"
    ∷ "use 7 2 0 3 0"
    ∷ "vreg 7 3 3 3ecccccd 1 1 0"
    ∷ "seg 3 12 26 1 own"
    ∷ "use 6 6 1 3 1"
    ∷ "group 0 6 -"
    ∷ "group 1 - 7"
    ∷ "end 8 2"
    ∷ []

every_record_lem : vregs_of (text every_record) ≡ text printed_records
unfolding vregs_of text every_record printed_records
every_record_lem = refl

-- ---- case A's sheet with a change: line n is another one, is left out, has a line before it

changed : ℕ → String → List ℕ
unfolding text case_a
changed n l = text (set case_a n l)

without : ℕ → List ℕ
unfolding text case_a
without n = text (take n case_a ++ drop (n + 1) case_a)

with_line : ℕ → String → List ℕ
unfolding text case_a
with_line n l = text (take n case_a ++ (l ∷ drop n case_a))

-- its first lines, the last of them ended by no line feed
without_line_feed : List ℕ
unfolding text case_a
without_line_feed = text (take 11 case_a) ++ bytes "end"

cases : List (List ℕ × String)
unfolding text case_a changed without with_line without_line_feed
cases =
    ([], "refused 1")
    ∷ (without_line_feed, "refused 1")
    ∷ (without 0, "refused 1")
    ∷ (without 1, "refused 1")
    ∷ (text ("opt 0 3f800000 3f800000 3f800000" ∷ "bank 0" ∷ "block 2 3f800000" ∷ "end" ∷ []), "refused 1")
    ∷ (text ("opt 0 3f800000 3f800000 3f800000" ∷ "bank 0" ∷ "class 00000001 3f800000 1 0" ∷ "end" ∷ []), "refused 1")
    ∷ (without 11, "refused 1")
    ∷ (with_line 1 "opt 0 3f800000 3f800000 3f800000", "refused 1")
    ∷ (with_line 8 "use 5 0 0 1", "refused 1")
    ∷ (with_line 9 "hint 0 0 0", "refused 1")
    ∷ (with_line 11 "end", "refused 1")
    ∷ (with_line 12 "", "refused 1")
    ∷ (with_line 7 "values 0 0 0", "refused 1")
    ∷ (with_line 7 "Value 0 0 0", "refused 1")
    ∷ (changed 1 "bank 0\r", "refused 1")
    ∷ (changed 1 "bank 00", "refused 1")
    ∷ (changed 1 "bank +0", "refused 1")
    ∷ (changed 1 "bank  0", "refused 1")
    ∷ (changed 1 "bank 0 ", "refused 1")
    ∷ (changed 1 "bank", "refused 1")
    ∷ (changed 1 "bank ", "refused 1")
    ∷ (changed 1 "bank /", "refused 1")
    ∷ (changed 1 "bank :", "refused 1")
    ∷ (changed 1 "bank 4294967296", "refused 1")
    ∷ (changed 1 "bank 4294967295", "refused 3")
    ∷ (changed 2 "class 0000000A 3f800000 1 0", "refused 1")
    ∷ (changed 2 "class 0000000g 3f800000 1 0", "refused 1")
    ∷ (changed 2 "class 0000000` 3f800000 1 0", "refused 1")
    ∷ (changed 2 "class 0000000: 3f800000 1 0", "refused 1")
    ∷ (changed 2 "class 000000007 3f800000 1 0", "refused 1")
    ∷ (changed 2 "class 7 3f800000 1 0", "refused 1")
    ∷ (changed 2 "class 00000007 3f800000 1 2", "refused 1")
    ∷ (changed 2 "class 00000007 3f800000 9 0", "refused 3")
    ∷ (with_line 5 "reg 2", "refused 1")
    ∷ (changed 7 "value 0 0 4", "refused 1")
    ∷ (with_line 8 "vgroup", "refused 4")
    ∷ (with_line 8 "vgroup 0 0 0 0 0 0 0 0 0 0", "refused 4")
    ∷ (with_line 8 "vgroup 0 -", "refused 1")
    ∷ (with_line 8 "hint 0 0 2", "refused 1")
    ∷ (changed 8 "seg 0 2 14 16", "refused 1")
    ∷ (changed 9 "use 10 0", "refused 1")
    ∷ (changed 9 "use 05 0 0 1", "refused 1")
    ∷ (changed 9 "use 2 0 0 0 1", "refused 1")
    ∷ (changed 9 "use 3 0 0", "refused 1")
    ∷ (changed 9 "use 3 0", "refused 7")
    ∷ (text (take 1 case_a ++ (replicate 9 "bank 0" ++ drop 2 case_a)), "refused 2")
    ∷ (text (take 1 case_a ++ (replicate 9 "bank 0" ++ drop 2 (take 11 case_a))), "refused 1")
    ∷ []

cases_hold : map (λ c. vregs_of c.0) cases ≡ map (λ c. text (c.1 ∷ [])) cases
unfolding vregs_of text cases
cases_hold = refl

-- ---- the second form (change request 3): case A's sheet with its written fields

unfoldable pub second_a : List String
second_a =
    "form 2"
    ∷ "opt 0 3f800000 3f800000 3f800000"
    ∷ "bank 0"
    ∷ "class 00000007 3f800000 1 0"
    ∷ "class 00000002 3f800000 1 0"
    ∷ "class 00000004 3f800000 1 0"
    ∷ "block 2 3f800000 0"
    ∷ "block 2 3f000000 2"
    ∷ "value 0 0 0"
    ∷ "seg 0 2 14 0 0"
    ∷ "use 5 0 0 1"
    ∷ "use 4 3 0 2"
    ∷ "end"
    ∷ []

-- line n is another one, is left out, has a line before it; each of some lines is another one
changed₂ : ℕ → String → List ℕ
unfolding text second_a
changed₂ n l = text (set second_a n l)

without₂ : ℕ → List ℕ
unfolding text second_a
without₂ n = text (take n second_a ++ drop (n + 1) second_a)

with_line₂ : ℕ → String → List ℕ
unfolding text second_a
with_line₂ n l = text (take n second_a ++ (l ∷ drop n second_a))

unfoldable pub each_changed : List (ℕ × String) → List String → List String
each_changed [] ls = ls
each_changed (c ∷ cs) ls = each_changed cs (set ls c.0 c.1)

changes : List (ℕ × String) → List ℕ
unfolding text second_a each_changed
changes cs = text (each_changed cs second_a)

-- a written set and a written first instruction that differ
both_wrong : List (ℕ × String)
both_wrong = (7, "block 2 3f000000 3") ∷ (9, "seg 0 2 14 0 1") ∷ []

-- two values of one set: the second leads, so the set of both is 1
set_of_one : String → List ℕ
unfolding text second_a
set_of_one l = text (take 8 second_a ++ ("value 0 1 0" ∷ "value 0 1 0" ∷ l ∷ drop 10 second_a))

second_cases : List (List ℕ × String)
unfolding text second_a changed₂ without₂ with_line₂ changes both_wrong set_of_one
second_cases =
    -- the form line: another number, spelling, field, byte or place; twice; alone; without its line feed
    (changed₂ 0 "form 1", "refused 1")
    ∷ (changed₂ 0 "form 3", "refused 1")
    ∷ (changed₂ 0 "form 02", "refused 1")
    ∷ (changed₂ 0 "form 22", "refused 1")
    ∷ (changed₂ 0 "form", "refused 1")
    ∷ (changed₂ 0 "form ", "refused 1")
    ∷ (changed₂ 0 "form  2", "refused 1")
    ∷ (changed₂ 0 "form 2 ", "refused 1")
    ∷ (changed₂ 0 "form 2 2", "refused 1")
    ∷ (changed₂ 0 "form 2\r", "refused 1")
    ∷ (changed₂ 0 "Form 2", "refused 1")
    ∷ (changed₂ 0 "forms 2", "refused 1")
    ∷ (changed₂ 0 "", "refused 1")
    ∷ (without₂ 0, "refused 1")
    ∷ (with_line₂ 0 "form 2", "refused 1")
    ∷ (with_line₂ 2 "form 2", "refused 1")
    ∷ (text ("form 2" ∷ []), "refused 1")
    ∷ (bytes "form", "refused 1")
    ∷ (with_line 0 "form 2", "refused 1")
    -- a written field that is missing, one too many, or of bad form
    ∷ (changed₂ 6 "block 2 3f800000", "refused 1")
    ∷ (changed₂ 6 "block 2 3f800000 0 0", "refused 1")
    ∷ (changed₂ 6 "block 2 3f800000 ", "refused 1")
    ∷ (changed₂ 6 "block 2 3f800000 00", "refused 1")
    ∷ (changed₂ 6 "block 2 3f800000 -", "refused 1")
    ∷ (changed₂ 7 "block 2 3f000000 4294967296", "refused 1")
    ∷ (changed₂ 9 "seg 0 2 14 0", "refused 1")
    ∷ (changed₂ 9 "seg 0 2 14 0 0 0", "refused 1")
    ∷ (changed₂ 9 "seg 0 2 14 0 ", "refused 1")
    ∷ (changed₂ 9 "seg 0 2 14 0 +0", "refused 1")
    ∷ (changed₂ 9 "seg 0 2 14 0 0000", "refused 1")
    ∷ (changed₂ 2 "bank 0 0", "refused 1")
    ∷ (changed₂ 10 "use 5 0 0 1 0", "refused 1")
    -- a first instruction that differs: of the first block, of the last, counted from 1, of no instruction
    ∷ (changed₂ 6 "block 2 3f800000 1", "refused 10")
    ∷ (changed₂ 7 "block 2 3f000000 1", "refused 10")
    ∷ (changes ((6, "block 2 3f800000 1") ∷ (7, "block 2 3f000000 3") ∷ []), "refused 10")
    ∷ (changed₂ 7 "block 2 3f000000 4294967295", "refused 10")
    -- a set that differs: no value's, the segment's value in place of its leader
    ∷ (changed₂ 9 "seg 0 2 14 0 1", "refused 10")
    ∷ (set_of_one "seg 0 2 14 0 0", "refused 10")
    ∷ (set_of_one "seg 0 2 14 0 2", "refused 10")
    -- both, behind each lower number
    ∷ (changes both_wrong, "refused 10")
    ∷ (changes ((12, "ends") ∷ both_wrong), "refused 1")
    ∷ (changes ((1, "opt 65536 3f800000 3f800000 3f800000") ∷ both_wrong), "refused 2")
    ∷ (changes ((2, "bank 3") ∷ both_wrong), "refused 3")
    ∷ (changes ((6, "block 0 3f800000 0") ∷ both_wrong), "refused 4")
    ∷ (changes ((9, "hint 0 9 0") ∷ []), "refused 1")
    ∷ (changes ((9, "seg 7 2 14 0 7") ∷ []), "refused 6")
    ∷ (changes ((10, "use 3 0") ∷ both_wrong), "refused 7")
    -- and before 8: case B's class, which shares nothing with the top one
    ∷ (changes ((3, "class 00000003 3f800000 1 0") ∷ []), "refused 8")
    ∷ (changes ((3, "class 00000003 3f800000 1 0") ∷ both_wrong), "refused 10")
    ∷ []

second-cases-hold :
    (map (λ c. vregs_of c.0) second_cases ≡ map (λ c. text (c.1 ∷ [])) second_cases)
    × (vregs_of (text second_a) ≡ text printed_a) × (vregs_of (set_of_one "seg 0 2 14 0 1")
    ≡ text (each_changed ((0, "vreg 0 1 1 3f000000 - 0 0") ∷ (3, "vreg 1 1 2 3e800000 - 0 0") ∷ []) printed_a))
unfolding vregs_of text second_cases second_a printed_a set_of_one each_changed with_line
second-cases-hold = (refl, refl, refl)

-- ---- the order of the records

one_each : List String
one_each =
    "opt 0 00000000 00000000 00000000"
    ∷ "bank 0"
    ∷ "class 00000001 00000000 1 0"
    ∷ "reg 0"
    ∷ "block 1 00000000"
    ∷ "value 0 0 0"
    ∷ "vgroup"
    ∷ "operand 0 0 0 0"
    ∷ "hint 0 0 0"
    ∷ "seg 0 0 4 0"
    ∷ "use 9 0"
    ∷ "end"
    ∷ []

-- 1 for a sheet, 0 for none
mark : Option (List Record) → ℕ
mark none = 48
mark (some rs) = 49

is_sheet : List String → ℕ
unfolding mark sheet_of text
is_sheet ls = mark (sheet_of (text ls))

-- the lines up to line n, and then those from each of the twelve on: which records may follow that of line n
followers : ℕ → List ℕ
unfolding is_sheet one_each
followers n = map (λ m. is_sheet (take (n + 1) one_each ++ drop m one_each))
    (0 ∷ 1 ∷ 2 ∷ 3 ∷ 4 ∷ 5 ∷ 6 ∷ 7 ∷ 8 ∷ 9 ∷ 10 ∷ 11 ∷ [])

order : List (ℕ × String)
order =
    (0, "010000000000")
    ∷ (1, "011000000000")
    ∷ (2, "001110000000")
    ∷ (3, "000110000000")
    ∷ (4, "000011111101")
    ∷ (5, "000001111101")
    ∷ (6, "000000111101")
    ∷ (7, "000000011101")
    ∷ (8, "000000001101")
    ∷ (9, "000000000111")
    ∷ (10, "000000000111")
    ∷ (11, "000000000000")
    ∷ []

order_holds : map (λ c. followers c.0) order ≡ map (λ c. bytes c.1) order
unfolding followers order
order_holds = refl
