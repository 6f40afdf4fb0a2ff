-- The two conversions of a job sheet: the text of a sheet's records in either form, the implied fields written in and
-- left out, and what `to_form2` and `to_form1` write.
-- Assumes nothing.
use Rattle.std.specs.Prelude.{ℕ, ◌+◌, Bool, true, false, not, cond, List, [], ◌∷◌, ◌++◌, map, take}
use Rattle.std.proofs.Math.Option.{Option, none, some}
use Rattle.definition.specs.declared.Refusal.TheVariants.{NotARecord}
use Rattle.definition.specs.declared.SheetRefusal.TheVariants.{By}
use Rattle.definition.specs.Types.{Job, val}
use Rattle.definition.specs.RegInfo.{set_of}
use Rattle.definition.specs.Text.{decimal, eight_digits, tabbed}
use Rattle.definition.specs.JobSheet.{Word, opt, bank, class, reg, block, value, vgroup, operand, hint, seg, use'}
use Rattle.definition.specs.JobSheet.{end, spelling, Form, up_to, bits, number, flag, remat, use_flags, Record, at}
use Rattle.definition.specs.JobSheet.{job_of_records}
use Rattle.definition.specs.SheetForms.{form_line, is_second, records_in, verdict, SheetOut, given', refused'}
use Rattle.definition.specs.SheetForms.{given_unless, refusal_text}

-- ---- the text of a record

-- "Numbers are decimal without leading zeros; masks and f32 bits are eight lower-case hexadecimal digits."
abbrev pub field_text : Form → ℕ → List ℕ
field_text (up_to most) n = decimal n
field_text bits n = eight_digits n

-- each number in its form
unfoldable pub field_texts : List Form → List ℕ → List (List ℕ)
unfolding decimal eight_digits
field_texts [] ns = []
field_texts (m ∷ ms) [] = []
field_texts (m ∷ ms) (n ∷ ns) = field_text m n ∷ field_texts ms ns

-- the fields of each kind of record of the first form
unfoldable pub first_texts : Word → List ℕ → List (List ℕ)
unfolding field_texts decimal
first_texts opt ns = field_texts (number ∷ bits ∷ bits ∷ bits ∷ []) ns
first_texts bank ns = field_texts (number ∷ []) ns
first_texts class ns = field_texts (bits ∷ bits ∷ number ∷ flag ∷ []) ns
first_texts reg ns = field_texts (flag ∷ []) ns
first_texts block ns = field_texts (number ∷ bits ∷ []) ns
first_texts value ns = field_texts (number ∷ number ∷ remat ∷ []) ns
first_texts vgroup ns = map decimal ns
first_texts operand ns = field_texts (number ∷ number ∷ number ∷ number ∷ []) ns
first_texts hint ns = field_texts (number ∷ number ∷ flag ∷ []) ns
first_texts seg ns = field_texts (number ∷ number ∷ number ∷ use_flags ∷ []) ns
first_texts use' ns = map decimal ns
first_texts end ns = []

-- and of the second: "its seg records end with the set number and its block records with the first instruction"
unfoldable pub second_texts : Word → List ℕ → List (List ℕ)
unfolding field_texts first_texts
second_texts block ns = field_texts (number ∷ bits ∷ number ∷ []) ns
second_texts seg ns = field_texts (number ∷ number ∷ number ∷ use_flags ∷ number ∷ []) ns
second_texts w ns = first_texts w ns

-- the fields in the second form or the first
abbrev pub texts_in : Bool → Word → List ℕ → List (List ℕ)
texts_in true w ns = second_texts w ns
texts_in false w ns = first_texts w ns

-- ---- the text of a sheet, in the second form or the first

-- "One record a line, fields parted by tabs, lines ended by a line feed."
unfoldable pub record_line : Bool → Record → List ℕ
unfolding first_texts second_texts
record_line second r = spelling r.word ++ tabbed (texts_in second r.word r.fields)

-- the lines of records, one behind the other
unfoldable pub lines_text : Bool → List Record → List ℕ
unfolding record_line
lines_text second [] = []
lines_text second (r ∷ rs) = record_line second r ++ lines_text second rs

-- "A second job form opens with `form`, a tab and `2`"
abbrev pub opening : Bool → List ℕ
opening true = form_line
opening false = []

-- the sheet of these records
unfoldable pub sheet_text : Bool → List Record → List ℕ
unfolding lines_text
sheet_text second rs = opening second ++ lines_text second rs

-- ---- the implied fields written in

-- the field that a record's job implies: the first instruction of a block behind n instructions, the set of a segment
abbrev pub implied_field : Word → ℕ → Job → List ℕ → ℕ
implied_field block n job ns = n
implied_field seg n job ns = (set_of job (val (at ns 0))).0
implied_field w n job ns = 0

-- the fields with that one behind them; only blocks and segments get one
abbrev pub longer : Word → ℕ → List ℕ → List ℕ
longer block k ns = ns ++ (k ∷ [])
longer seg k ns = ns ++ (k ∷ [])
longer w k ns = ns

-- how many instructions stand before the record behind
abbrev pub insts_behind : Word → ℕ → List ℕ → ℕ
insts_behind block n ns = n + at ns 0
insts_behind w n ns = n

-- the record of this kind with these fields
abbrev pub rec : Word → List ℕ → Record
rec w ns = record { word = w; fields = ns }

-- records of the first form, behind n instructions, with what their job implies
unfoldable pub grown : ℕ → Job → List Record → List Record
unfolding set_of
grown n job [] = []
grown n job (r ∷ rs) =
    rec r.word (longer r.word (implied_field r.word n job r.fields) r.fields)
    ∷ grown (insts_behind r.word n r.fields) job rs

-- ---- the written fields left out

-- the fields before the written one
abbrev pub bare_fields : Word → List ℕ → List ℕ
bare_fields block ns = take 2 ns
bare_fields seg ns = take 4 ns
bare_fields w ns = ns

-- records of the second form without their written fields
unfoldable pub shrunk : List Record → List Record
shrunk [] = []
shrunk (r ∷ rs) = rec r.word (bare_fields r.word r.fields) ∷ shrunk rs

-- ---- "A program moves a sheet to the second form and another moves it to the first."

-- the records of a sheet in the other form, which is asked for: the second, or the first
unfoldable pub moved_records : Bool → List Record → List Record
unfolding grown shrunk job_of_records
moved_records true rs = grown 0 (job_of_records rs) rs
moved_records false rs = shrunk rs

-- the sheet of these records in the form asked for; where the bytes are no sheet, the verdict on them is 1
abbrev pub moved_sheet : Bool → Option (List Record) → List ℕ
moved_sheet asked none = []
moved_sheet asked (some rs) = sheet_text asked (moved_records asked rs)

-- whether a sheet that is of the second form or not has the form asked for
abbrev pub already : Bool → Bool → Bool
already true second = second
already false second = not second

-- "A sheet already in the form asked for gets 1, whatever else is wrong with it."; "A sheet that tests 1 to 7 or 10 refuse
-- is answered by `refused` and the same number alone; 8 and 9 play no part."
unfoldable pub move_to : Bool → List ℕ → SheetOut (List ℕ)
unfolding is_second records_in verdict moved_records sheet_text
move_to asked bs =
    cond (already asked (is_second bs)) (refused' (By NotARecord))
    (given_unless (verdict bs) (moved_sheet asked (records_in bs)))

-- ---- what the programs write

-- the sheet, or the line of the refusal
abbrev pub moved_text : SheetOut (List ℕ) → List ℕ
moved_text (given' t) = t
moved_text (refused' r) = refusal_text r

abbrev pub converted : Bool → List ℕ → List ℕ
converted asked bs = moved_text (move_to asked bs)

-- `to_form2`
unfoldable pub to_form2 : List ℕ → List ℕ
unfolding move_to decimal
to_form2 bs = converted true bs

-- `to_form1`
unfoldable pub to_form1 : List ℕ → List ℕ
unfolding move_to decimal
to_form1 bs = converted false bs
