-- What `order` prints for pairs of job sheets, by computation: a pair for each kind of difference, both ways round.
-- Assumes nothing.
use mathlib.Core.Path.{◌≡◌, refl}
use Prim.Native.Nat.{ℕ, zero, suc, ◌+◌}
use Rattle.std.specs.Prelude.{◌%◌}
use Prim.Native.String.{String}
use mathlib.Core.List.{List, [], ◌∷◌, ◌++◌, map}
use lib.ListN.{take, drop, replicate}
use Rattle.definition.specs.SheetForms.{vregs_of}
use Rattle.definition.specs.Text.{bytes, line, decimal}
use Rattle.definition.specs.JobOrder.{ordered_text}
use Rattle.definition.proofs.SheetCases.{text, case_a, second_a, each_changed}

-- the answers to two sheets, and to the same two turned
abbrev both_ways : List String → List String → List ℕ × List ℕ
both_ways a b = (ordered_text (text a) (text b), ordered_text (text b) (text a))

-- of two sheets of which the first goes before the second
abbrev rising : List ℕ × List ℕ
rising = (text ("before" ∷ []), text ("after" ∷ []))

-- and of two that are the same job
abbrev level : List ℕ × List ℕ
level = (text ("same" ∷ []), text ("same" ∷ []))

-- ---- each field of each record

-- a sheet with every record and every kind of use
whole : List String
whole =
    -- 0: opt, bank, class, reg
    "opt 1 3f000000 3f000000 3f000000"
    ∷ "bank 0"
    ∷ "bank 0"
    ∷ "class 00000003 3f800000 1 0"
    ∷ "class 00000002 3f800000 1 0"
    ∷ "class 00000004 3f800000 2 0"
    ∷ "class 00000008 3f800000 2 0"
    ∷ "reg 0"
    ∷ "reg 0"
    -- 9: block, value, vgroup
    ∷ "block 4 3f800000"
    ∷ "block 4 3f800000"
    ∷ "value 0 0 0"
    ∷ "value 0 0 0"
    ∷ "value 0 2 0"
    ∷ "vgroup 2 2"
    ∷ "vgroup 2 2"
    -- 16: operand, hint
    ∷ "operand 1 0 0 3"
    ∷ "operand 1 1 0 2"
    ∷ "operand 2 0 0 3"
    ∷ "operand 2 1 0 2"
    ∷ "operand 6 0 0 2"
    ∷ "hint 1 2 0"
    -- 22: seg, use
    ∷ "seg 0 0 28 0"
    ∷ "use 0 0 0"
    ∷ "use 1 1 0"
    ∷ "use 2 2 0 0 0 0"
    ∷ "use 4 3 0 0"
    ∷ "use 5 4 0 0"
    ∷ "use 8 5 0"
    ∷ "use 9 6"
    -- 30: the group uses
    ∷ "seg 2 0 16 0"
    ∷ "use 6 1 0 3 0"
    ∷ "use 7 2 0 3 0"
    ∷ "end"
    ∷ []

-- Line n of the sheet that goes before, and of the one that goes behind. The fields behind the one that differs go the
-- other way, where they may.
fields : List (ℕ × String × String)
fields =
    -- a number of fewer digits, and of fewer bytes; scales by bits
    (0, "opt 9 3f800000 3f800000 3f800000", "opt 10 00000000 00000000 00000000")
    ∷ (0, "opt 255 3f800000 3f800000 3f800000", "opt 256 00000000 00000000 00000000")
    ∷ (0, "opt 1 3f800000 3f800000 3f800000", "opt 1 40000000 00000000 00000000")
    ∷ (0, "opt 1 3f000000 3e7fffff 49800000", "opt 1 3f000000 3e800000 00000000")
    ∷ (0, "opt 1 3f000000 3f000000 00000000", "opt 1 3f000000 3f000000 00000001")
    ∷ (1, "bank 2", "bank 3")
    ∷ (2, "bank 0", "bank 1")
    -- a mask by bits, a digit before a letter; a cost
    ∷ (3, "class 00000009 3f800000 1 1", "class 0000000a 00000000 1 0")
    ∷ (4, "class 00000002 3f7fffff 2 1", "class 00000002 3f800000 1 0")
    ∷ (4, "class 00000002 3f800000 1 1", "class 00000002 3f800000 2 0")
    ∷ (6, "class 00000008 3f800000 2 0", "class 00000008 3f800000 2 1")
    ∷ (7, "reg 0", "reg 1")
    ∷ (8, "reg 0", "reg 1")
    ∷ (9, "block 4 7f7fffff", "block 5 00000000")
    ∷ (9, "block 4 3f800000", "block 4 40000000")
    ∷ (10, "block 9 7f7fffff", "block 10 00000000")
    ∷ (10, "block 4 7f7ffffe", "block 4 7f7fffff")
    ∷ (12, "value 0 0 3", "value 1 0 0")
    ∷ (12, "value 0 0 3", "value 0 1 0")
    ∷ (13, "value 0 2 2", "value 0 2 3")
    -- each member; a group that another begins with; and a longer one whose first member is less
    ∷ (15, "vgroup 0 2", "vgroup 1 0")
    ∷ (15, "vgroup 2 0", "vgroup 2 1")
    ∷ (15, "vgroup 2 2", "vgroup 2 2 0")
    ∷ (15, "vgroup 0 2 2", "vgroup 1 0")
    ∷ (20, "operand 6 9 1 3", "operand 7 0 0 2")
    ∷ (20, "operand 6 9 1 3", "operand 6 10 0 2")
    ∷ (20, "operand 6 0 0 3", "operand 6 0 1 2")
    ∷ (20, "operand 6 0 0 2", "operand 6 0 0 3")
    ∷ (21, "hint 0 8 1", "hint 1 0 0")
    ∷ (21, "hint 1 7 1", "hint 1 8 0")
    ∷ (21, "hint 1 2 0", "hint 1 2 1")
    ∷ (22, "seg 0 1 29 15", "seg 1 0 28 0")
    ∷ (22, "seg 0 0 29 15", "seg 0 1 28 0")
    ∷ (30, "seg 2 0 16 15", "seg 2 0 17 0")
    ∷ (30, "seg 2 0 16 9", "seg 2 0 16 10")
    -- the kinds of uses, 3 but in register sheets; then the instruction and each field of each kind
    ∷ (23, "use 0 1 1", "use 1 0 0")
    ∷ (24, "use 1 2 1", "use 2 0 0 0 0 0")
    ∷ (25, "use 2 3 9 9 3 255", "use 4 1 0 0")
    ∷ (26, "use 4 4 9 3", "use 5 2 0 0")
    ∷ (31, "use 5 2 9 3", "use 6 1 0 3 0")
    ∷ (32, "use 6 2 0 3 1", "use 7 1 0 3 0")
    ∷ (32, "use 7 2 0 3 1", "use 8 1 0")
    ∷ (28, "use 8 6 4294967295", "use 9 4")
    ∷ (23, "use 0 0 1", "use 0 1 0")
    ∷ (23, "use 0 0 0", "use 0 0 1")
    ∷ (24, "use 1 0 1", "use 1 1 0")
    ∷ (24, "use 1 1 0", "use 1 1 1")
    ∷ (25, "use 2 2 9 9 3 255", "use 2 3 0 0 0 0")
    ∷ (25, "use 2 2 9 9 3 255", "use 2 2 10 0 0 0")
    ∷ (25, "use 2 2 0 65534 3 255", "use 2 2 0 65535 0 0")
    ∷ (25, "use 2 2 0 0 2 255", "use 2 2 0 0 3 0")
    ∷ (25, "use 2 2 0 0 0 254", "use 2 2 0 0 0 255")
    ∷ (26, "use 4 2 9 3", "use 4 3 0 0")
    ∷ (26, "use 4 3 9 3", "use 4 3 10 0")
    ∷ (26, "use 4 3 0 2", "use 4 3 0 3")
    ∷ (27, "use 5 3 9 3", "use 5 4 0 0")
    ∷ (27, "use 5 4 9 3", "use 5 4 10 0")
    ∷ (27, "use 5 4 0 2", "use 5 4 0 3")
    -- of group uses the instruction, the slot and the index: an operand's line decides before their class can
    ∷ (31, "use 6 1 1 2 1", "use 6 2 0 3 0")
    ∷ (31, "use 6 1 0 3 1", "use 6 1 1 2 0")
    ∷ (31, "use 6 1 0 3 0", "use 6 1 0 3 1")
    ∷ (32, "use 7 1 1 2 1", "use 7 2 0 3 0")
    ∷ (32, "use 7 2 0 3 1", "use 7 2 1 2 0")
    ∷ (32, "use 7 2 0 3 0", "use 7 2 0 3 1")
    -- kinds 8 and 9; numbers up to the greatest, with the highest bit or without
    ∷ (28, "use 8 4 4294967295", "use 8 5 0")
    ∷ (28, "use 8 5 9", "use 8 5 10")
    ∷ (28, "use 8 5 2147483647", "use 8 5 2147483648")
    ∷ (28, "use 8 5 4294967294", "use 8 5 4294967295")
    ∷ (29, "use 9 5", "use 9 6")
    ∷ []

with_line : ℕ → String → List String
unfolding whole each_changed
with_line n l = each_changed ((n, l) ∷ []) whole

fields_hold : map (λ c. both_ways (with_line c.0 c.1) (with_line c.0 c.2)) fields ≡ map (λ c. rising) fields
unfolding ordered_text text fields with_line
fields_hold = refl

-- ---- a record more

-- The sheet with this line before line n, a further one of its kind, goes before the one that goes on with a later
-- kind: a seg or the end behind the uses, and the end behind the segs.
further : List (ℕ × String)
further =
    (3, "bank 3")
    ∷ (7, "class 00000010 49800000 8 1")
    ∷ (9, "reg 1")
    ∷ (11, "block 9 7f7fffff")
    ∷ (14, "value 1 3 3")
    ∷ (16, "vgroup 2 2 2 2")
    ∷ (21, "operand 7 9 1 3")
    ∷ (22, "hint 2 8 1")
    ∷ (30, "use 9 6")
    ∷ (33, "use 9 3")
    ∷ (33, "seg 2 16 32 15")
    ∷ []

with_more : ℕ → String → List String
unfolding whole
with_more n l = take n whole ++ (l ∷ drop n whole)

further_hold : map (λ c. both_ways (with_more c.0 c.1) whole) further ≡ map (λ c. rising) further
unfolding ordered_text text further with_more whole
further_hold = refl

-- ---- each kind against each later one that may stand in its place

-- the lines behind the first bank, in rising order
kinds : List (List String)
kinds =
    let b : String = "bank 0" in
    let c : String = "class 00000001 00000000 2 0" in
    let r : String = "reg 0" in
    let k : String = "block 1 00000000" in
    let v : String = "value 0 0 0" in
    let g : String = "vgroup 0 0" in
    let p : String = "operand 0 0 0 0" in
    let q : String = "operand 0 1 0 0" in
    let h : String = "hint 0 0 0" in
    let s : String = "seg 0 0 2 0" in
    let t : String = "seg 0 2 4 0" in
    let u : String = "use 8 0 0" in
    let e : String = "end" in
    (b ∷ c ∷ k ∷ e ∷ [])
    ∷ (c ∷ c ∷ k ∷ e ∷ [])
    ∷ (c ∷ r ∷ r ∷ k ∷ e ∷ [])
    ∷ (c ∷ r ∷ k ∷ e ∷ [])
    ∷ (c ∷ k ∷ k ∷ e ∷ [])
    ∷ (c ∷ k ∷ v ∷ v ∷ e ∷ [])
    ∷ (c ∷ k ∷ v ∷ g ∷ g ∷ e ∷ [])
    ∷ (c ∷ k ∷ v ∷ g ∷ p ∷ q ∷ e ∷ [])
    ∷ (c ∷ k ∷ v ∷ g ∷ p ∷ h ∷ h ∷ e ∷ [])
    ∷ (c ∷ k ∷ v ∷ g ∷ p ∷ h ∷ s ∷ u ∷ u ∷ e ∷ [])
    ∷ (c ∷ k ∷ v ∷ g ∷ p ∷ h ∷ s ∷ u ∷ t ∷ e ∷ [])
    ∷ (c ∷ k ∷ v ∷ g ∷ p ∷ h ∷ s ∷ u ∷ e ∷ [])
    ∷ (c ∷ k ∷ v ∷ g ∷ p ∷ h ∷ s ∷ t ∷ e ∷ [])
    ∷ (c ∷ k ∷ v ∷ g ∷ p ∷ h ∷ s ∷ e ∷ [])
    ∷ (c ∷ k ∷ v ∷ g ∷ p ∷ h ∷ e ∷ [])
    ∷ (c ∷ k ∷ v ∷ g ∷ p ∷ s ∷ e ∷ [])
    ∷ (c ∷ k ∷ v ∷ g ∷ p ∷ e ∷ [])
    ∷ (c ∷ k ∷ v ∷ g ∷ h ∷ e ∷ [])
    ∷ (c ∷ k ∷ v ∷ g ∷ s ∷ e ∷ [])
    ∷ (c ∷ k ∷ v ∷ g ∷ e ∷ [])
    ∷ (c ∷ k ∷ v ∷ h ∷ e ∷ [])
    ∷ (c ∷ k ∷ v ∷ s ∷ e ∷ [])
    ∷ (c ∷ k ∷ v ∷ e ∷ [])
    ∷ (c ∷ k ∷ e ∷ [])
    ∷ []

-- the whole sheet
of_kinds : List String → List String
of_kinds ls = "opt 0 00000000 00000000 00000000" ∷ "bank 0" ∷ ls

-- each of them, and one behind it
two_of : List (List String) → List (List String × List String)
two_of [] = []
two_of (l ∷ ls) = map (λ m. (l, m)) ls ++ two_of ls

kinds-hold :
    (map (λ z. both_ways (of_kinds z.0) (of_kinds z.1)) (two_of kinds) ≡ map (λ z. rising) (two_of kinds))
    × (map (λ a. both_ways (of_kinds a) (of_kinds a)) kinds ≡ map (λ a. level) kinds)
unfolding ordered_text text kinds two_of of_kinds
kinds-hold = (refl, refl)

-- ---- a mask's highest bit

-- a sheet of 32 classes, the first of them given
with_class : String → List String
with_class l =
    "opt 0 3f800000 3f800000 3f800000"
    ∷ "bank 0"
    ∷ l
    ∷ (replicate 31 "class 00000001 3f800000 1 0" ++ ("block 1 3f800000" ∷ "end" ∷ []))

masks : List (String × String)
masks =
    ("class 7fffffff 3f800000 1 1", "class 80000000 00000000 1 0")
    ∷ ("class 00000000 3f800000 1 1", "class 80000000 00000000 1 0")
    ∷ ("class 80000000 3f800000 1 1", "class ffffffff 00000000 1 0")
    ∷ ("class 000000ff 3f800000 1 1", "class 00000100 00000000 1 0")
    ∷ []

masks_hold : map (λ m. both_ways (with_class m.0) (with_class m.1)) masks ≡ map (λ m. rising) masks
unfolding ordered_text text masks with_class
masks_hold = refl

-- ---- the two forms

-- the sheet above in the second form
second_whole : List String
unfolding whole each_changed
second_whole =
    "form 2"
    ∷ each_changed ((9, "block 4 3f800000 0") ∷ (10, "block 4 3f800000 4")
    ∷ (22, "seg 0 0 28 0 0") ∷ (30, "seg 2 0 16 0 2") ∷ []) whole

-- its line n behind the form line is another one
second_with : ℕ → String → List String
unfolding second_whole each_changed
second_with n l = each_changed ((n + 1, l) ∷ []) second_whole

-- case B's class, which shares nothing with the top one: `vregs` answers these by 8, and here they are jobs as others
stops : List String
unfolding case_a each_changed
stops = each_changed ((2, "class 00000003 3f800000 1 0") ∷ []) case_a

second_stops : List String
unfolding second_a each_changed
second_stops = each_changed ((3, "class 00000003 3f800000 1 0") ∷ []) second_a

-- the same job
sames : List (List String × List String)
unfolding case_a second_a whole second_whole stops second_stops
sames =
    (case_a, second_a)
    ∷ (whole, second_whole)
    ∷ (stops, second_stops)
    ∷ (case_a, case_a)
    ∷ (second_a, second_a)
    ∷ (whole, whole)
    ∷ (second_whole, second_whole)
    ∷ []

-- a sheet of the first form that goes before one of the second: line n of each
first_before : List (ℕ × String × String)
first_before =
    (0, "opt 9 3f800000 3f800000 3f800000", "opt 10 00000000 00000000 00000000")
    ∷ (10, "block 9 3f800000", "block 10 3f800000 4")
    ∷ (10, "block 4 3f800000", "block 4 3f800001 4")
    ∷ (22, "seg 0 0 28 9", "seg 0 0 28 10 0")
    ∷ (29, "use 9 5", "use 9 6")
    ∷ []

-- one of the second form that goes before one of the first
second_before : List (ℕ × String × String)
second_before =
    (0, "opt 9 3f800000 3f800000 3f800000", "opt 10 00000000 00000000 00000000")
    ∷ (10, "block 9 3f800000 4", "block 10 3f800000")
    ∷ (10, "block 4 3f800000 4", "block 4 3f800001")
    ∷ (22, "seg 0 0 28 9 0", "seg 0 0 28 10")
    ∷ (29, "use 9 5", "use 9 6")
    ∷ []

-- others, one of which stops
others : List (List String × List String)
unfolding case_a second_a stops second_stops
others = (stops, case_a) ∷ (stops, second_a) ∷ (second_stops, case_a) ∷ (second_stops, second_a) ∷ []

forms-hold :
    (map (λ c. both_ways c.0 c.1) sames ≡ map (λ c. level) sames)
    × (map (λ c. both_ways (with_line c.0 c.1) (second_with c.0 c.2)) first_before ≡ map (λ c. rising) first_before)
    × (map (λ c. both_ways (second_with c.0 c.1) (with_line c.0 c.2)) second_before ≡ map (λ c. rising) second_before)
    × (map (λ c. both_ways c.0 c.1) others ≡ map (λ c. rising) others)
    × (vregs_of (text stops) ≡ text ("refused 8" ∷ []))
unfolding ordered_text vregs_of text sames first_before second_before others with_line second_with stops
forms-hold = (refl, refl, refl, refl, refl)

-- ---- a job that overfills the tables

-- a text for each of n numbers from i on
counted : ℕ → ℕ → (ℕ → List ℕ) → List ℕ
counted zero i f = []
counted (suc n) i f = f i ++ counted n (i + 1) f

-- a group use at instruction i, at index 0 or 1 in turn
in_turn : ℕ → List ℕ
unfolding decimal
in_turn i = line "use" (bytes "6" ∷ decimal i ∷ bytes "0" ∷ bytes "1" ∷ decimal (i % 2) ∷ [])

-- 513 operands, and a use of each that makes a group of its own: `vregs` answers it by 9
overfull : List ℕ
unfolding decimal text counted in_turn
overfull =
    text ("opt 0 3f800000 3f800000 3f800000" ∷ "bank 0" ∷ "class 00000003 3f800000 1 0" ∷ "class 00000002 3f800000 2 0"
    ∷ "block 513 3f800000" ∷ "value 0 0 0" ∷ "vgroup 0 0" ∷ [])
    ++ (counted 513 0 (λ i. line "operand" (decimal i ∷ bytes "0" ∷ bytes "0" ∷ bytes "1" ∷ []))
    ++ (text ("seg 0 0 2052 0" ∷ []) ++ (counted 513 0 in_turn ++ text ("end" ∷ []))))

-- its first class has the mask 00000003, and case A's has 00000007
overfull_holds : ordered_text overfull (text case_a) ≡ text ("before" ∷ [])
unfolding ordered_text text overfull case_a
overfull_holds = refl

-- ---- a written field decides nothing before what it is implied by

written : List String
written =
    "form 2"
    ∷ "opt 0 3f800000 3f800000 3f800000"
    ∷ "bank 0"
    ∷ "class 00000001 3f800000 1 0"
    ∷ "block 2 3f800000 0"
    ∷ "block 3 3f800000 2"
    ∷ "block 1 3f800000 5"
    ∷ "value 0 0 0"
    ∷ "value 0 1 0"
    ∷ "value 0 2 0"
    ∷ "value 0 3 0"
    ∷ "seg 2 0 4 0 2"
    ∷ "end"
    ∷ []

-- the changes to the sheet that goes before, and to the one that goes behind
implied : List (List (ℕ × String) × List (ℕ × String))
implied =
    -- a later block's count
    ([], (5, "block 4 3f800000 2") ∷ (6, "block 1 3f800000 6") ∷ [])
    -- the first block's count and its frequency, with first instructions behind that go the other way
    ∷ (
      (5, "block 9 3f800000 2") ∷ (6, "block 1 3f800000 11") ∷ [],
      (4, "block 3 3f800000 0") ∷ (5, "block 1 3f800000 3") ∷ (6, "block 1 3f800000 4") ∷ [],
    )
    ∷ (
      (4, "block 2 3f000000 0") ∷ (5, "block 9 3f800000 2") ∷ (6, "block 1 3f800000 11") ∷ [],
      (5, "block 1 3f800000 2") ∷ (6, "block 1 3f800000 3") ∷ [],
    )
    -- a leader and a segment's value, with sets that go the other way
    ∷ ([], (7, "value 0 3 0") ∷ (9, "value 0 1 0") ∷ (11, "seg 2 0 4 0 1") ∷ [])
    ∷ ((7, "value 0 3 0") ∷ (11, "seg 0 0 4 15 3") ∷ [], (7, "value 0 3 0") ∷ (11, "seg 1 0 4 0 1") ∷ [])
    ∷ []

written_with : List (ℕ × String) → List String
unfolding written each_changed
written_with cs = each_changed cs written

implied_hold : map (λ c. both_ways (written_with c.0) (written_with c.1)) implied ≡ map (λ c. rising) implied
unfolding ordered_text text implied written_with
implied_hold = refl

-- ---- "Where a job doesn't pass, its number is given, the first job's if neither does."

-- sheets of both forms that do not pass, and the line of each
bad : List (List ℕ × String)
unfolding text case_a second_a each_changed
bad =
    ([], "refused 1")
    ∷ (text (take 11 case_a) ++ bytes "end", "refused 1")
    ∷ (text (each_changed ((1, "bank 00") ∷ []) case_a), "refused 1")
    ∷ (text (each_changed ((0, "form 3") ∷ []) second_a), "refused 1")
    ∷ (text (each_changed ((0, "opt 65536 3f800000 3f800000 3f800000") ∷ []) case_a), "refused 2")
    ∷ (text (each_changed ((2, "bank 3") ∷ []) second_a), "refused 3")
    ∷ (text (each_changed ((7, "value 0 3 0") ∷ []) case_a), "refused 4")
    ∷ (text (take 9 second_a ++ ("hint 0 9 0" ∷ drop 9 second_a)), "refused 5")
    ∷ (text (each_changed ((9, "seg 7 2 14 0 7") ∷ []) second_a), "refused 6")
    ∷ (text (each_changed ((9, "use 3 0") ∷ []) case_a), "refused 7")
    ∷ (text (each_changed ((7, "block 2 3f000000 3") ∷ []) second_a), "refused 10")
    ∷ (text (each_changed ((9, "seg 0 2 14 0 1") ∷ []) second_a), "refused 10")
    ∷ []

good : List (List String)
unfolding case_a second_a stops
good = case_a ∷ second_a ∷ stops ∷ []

-- the first does not pass, the second does not, and neither does
refused-hold :
    (map (λ s. map (λ c. ordered_text c.0 (text s)) bad) good
    ≡ map (λ s. map (λ c. text (c.1 ∷ [])) bad) good)
    × (map (λ s. map (λ c. ordered_text (text s) c.0) bad) good
    ≡ map (λ s. map (λ c. text (c.1 ∷ [])) bad) good)
    × (map (λ c. map (λ d. ordered_text c.0 d.0) bad) bad
    ≡ map (λ c. map (λ d. text (c.1 ∷ [])) bad) bad)
unfolding ordered_text decimal text bad good
refused-hold = (refl, refl, refl)
