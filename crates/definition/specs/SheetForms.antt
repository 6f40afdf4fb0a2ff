-- The two forms of a job sheet (change request 3): which one a sheet has, its records, the written fields and the
-- implied ones, and the answer.
-- Assumes nothing.
use Rattle.std.specs.Prelude.{ℕ, ◌+◌, Bool, true, false, ◌&&◌, cond, List, [], ◌∷◌, map, length, take, drop}
use Rattle.std.proofs.Math.Option.{Option, none, some}
use Rattle.definition.specs.declared.BlockData.{BlockData}
use Rattle.definition.specs.declared.Refusal.{Refusal}
use Rattle.definition.specs.declared.Refusal.TheVariants.{NotARecord}
use Rattle.definition.specs.Types.{Job, Room, Out, done, refused, number_of}
use Rattle.definition.specs.Limits.{vregs_room}
use Rattle.definition.specs.RegInfo.{set_of}
use Rattle.definition.specs.Build.{Result, build}
use Rattle.definition.specs.Entry.{entry}
use Rattle.definition.specs.Lines.{printed}
use Rattle.definition.specs.Text.{bytes, same, ◌>>=◌, given, lines_of, fields_of, line, decimal}
use Rattle.definition.specs.JobSheet.{Word, opt, bank, class, reg, block, value, vgroup, operand, hint, seg, use'}
use Rattle.definition.specs.JobSheet.{end, all_words, word_among, number, bits, use_flags}
use Rattle.definition.specs.JobSheet.{read_fields, read_record, Record, ordered, sheet_of, at, only, job_of_records}
use Rattle.definition.specs.RegisterSheet.{lines_bytes}
use Rattle.definition.specs.declared.SheetRefusal.{SheetRefusal}
use Rattle.definition.specs.declared.SheetRefusal.TheVariants.{By, WrittenDiffers}

-- ---- "A second job form opens with `form`, a tab and `2`"

-- these bytes, and the line's end
abbrev pub form_line : List ℕ
form_line = line "form" (bytes "2" ∷ [])

unfoldable pub is_second : List ℕ → Bool
is_second bs = same (take (length form_line) bs) form_line

-- what stands behind that line
abbrev pub behind_form : List ℕ → List ℕ
behind_form bs = drop (length form_line) bs

-- ---- "its seg records end with the set number and its block records with the first instruction"

unfoldable pub read_second : Word → List (List ℕ) → Option (List ℕ)
unfolding read_fields read_record
read_second opt fs = read_record opt fs
read_second bank fs = read_record bank fs
read_second class fs = read_record class fs
read_second reg fs = read_record reg fs
-- block (instruction count, frequency, first instruction)
read_second block fs = read_fields (number ∷ bits ∷ number ∷ []) fs
read_second value fs = read_record value fs
read_second vgroup fs = read_record vgroup fs
read_second operand fs = read_record operand fs
read_second hint fs = read_record hint fs
-- seg (value, from, to, flags, set)
read_second seg fs = read_fields (number ∷ number ∷ number ∷ use_flags ∷ number ∷ []) fs
read_second use' fs = read_record use' fs
read_second end fs = read_record end fs

unfoldable pub second_record : List ℕ → Option Record
unfolding fields_of word_among read_second
second_record l =
    let fs = fields_of l in
    word_among all_words fs.first >>= λ w. read_second w fs.rest >>= λ ns. some (record { word = w; fields = ns })

unfoldable pub second_records : List (List ℕ) → Option (List Record)
unfolding second_record
second_records [] = some []
second_records (l ∷ ls) = second_record l >>= λ r. second_records ls >>= λ rs. some (r ∷ rs)

-- the records behind the form line, or none where the bytes are no sheet of the second form
unfoldable pub second_sheet : List ℕ → Option (List Record)
unfolding lines_of second_records ordered
second_sheet bs = lines_of bs >>= λ ls. second_records ls >>= λ rs. given (ordered (opt ∷ []) rs) rs

-- the records of a sheet in its form. "Jobs without that line are read as before."
unfoldable pub records_in : List ℕ → Option (List Record)
unfolding is_second second_sheet sheet_of
records_in bs = cond (is_second bs) (second_sheet (behind_form bs)) (sheet_of bs)

-- The job of a sheet in its form. A job has the fields before the written ones: "The written fields never replace the
-- implied ones".
unfoldable pub job_in : List ℕ → Option Job
unfolding records_in job_of_records
job_in bs = records_in bs >>= λ rs. some (job_of_records rs)

-- ---- the written fields, in order

unfoldable pub written_firsts : List Record → List ℕ
unfolding only
written_firsts rs = map (λ ns. at ns 2) (only block rs)

unfoldable pub written_sets : List Record → List ℕ
unfolding only
written_sets rs = map (λ ns. at ns 4) (only seg rs)

-- ---- "both implied until now"

-- the first instructions of blocks behind n instructions
unfoldable pub firsts_from : ℕ → List BlockData → List ℕ
firsts_from n [] = []
firsts_from n (b ∷ bs) = n ∷ firsts_from (n + b.insts) bs

-- the first instruction of each block: the counts before it
unfoldable pub implied_firsts : Job → List ℕ
unfolding firsts_from
implied_firsts job = firsts_from 0 job.blocks

-- the set of each segment: its value's leader
unfoldable pub implied_sets : Job → List ℕ
unfolding set_of
implied_sets job = map (λ s. (set_of job s.value).0) job.segments

-- no "written set or first instruction differs from the implied one"
abbrev pub as_implied : List ℕ → List ℕ → Job → Bool
as_implied firsts sets job = same firsts (implied_firsts job) && same sets (implied_sets job)

unfoldable pub as_written : List Record → Bool
unfolding written_firsts written_sets implied_firsts implied_sets job_of_records
as_written rs = as_implied (written_firsts rs) (written_sets rs) (job_of_records rs)

-- ---- "10 when a written set or first instruction differs from the implied one"

-- the number of each refusal of a sheet: its job's, or 10
abbrev pub sheet_number_of : SheetRefusal → ℕ
sheet_number_of (By r) = number_of r
sheet_number_of WrittenDiffers = 10

-- "an entry rule tested after 7 and before 8": w is whether the written fields are the implied ones
abbrev pub tenth_test : Option Refusal → Bool → Option SheetRefusal
tenth_test (some r) w = some (By r)
tenth_test none true = none
tenth_test none false = some WrittenDiffers

-- tests 2 to 7 on the job, then 10 where there are written fields
abbrev pub tests_of : Bool → List Record → Option SheetRefusal
tests_of true rs = tenth_test (entry (job_of_records rs)) (as_written rs)
tests_of false rs = tenth_test (entry (job_of_records rs)) true

-- test 1 over the whole sheet, then these
abbrev pub verdict_of : Bool → Option (List Record) → Option SheetRefusal
verdict_of second none = some (By NotARecord)
verdict_of second (some rs) = tests_of second rs

-- The verdict on a sheet in its form: the refusal by tests 1 to 7 and 10, or none where it passes.
unfoldable pub verdict : List ℕ → Option SheetRefusal
unfolding is_second records_in job_of_records entry as_written
verdict bs = verdict_of (is_second bs) (records_in bs)

-- the answer to a sheet: what its job's registers are, or a refusal
pub data SheetOut (A : Type 0) : Type 0 where
  given' : A → SheetOut A
  refused' : SheetRefusal → SheetOut A

-- what a sheet gives, unless its verdict refuses it
abbrev pub given_unless : {A : Type 0} → Option SheetRefusal → A → SheetOut A
given_unless (some r) a = refused' r
given_unless none a = given' a

-- an answer to a job, as one to its sheet
abbrev pub lift : {A : Type 0} → Out A → SheetOut A
lift (done a) = given' a
lift (refused r) = refused' (By r)

-- a sheet that passes is answered as its job is built
abbrev pub built_unless : Option SheetRefusal → Job → Room → SheetOut Result
built_unless (some r) job room = refused' r
built_unless none job room = lift (build job room)

abbrev pub answer_for : Bool → Option (List Record) → Room → SheetOut Result
answer_for second none room = refused' (By NotARecord)
answer_for second (some rs) room = built_unless (tests_of second rs) (job_of_records rs) room

-- The answer to a sheet in its form.
unfoldable pub answer_to_sheet : List ℕ → Room → SheetOut Result
unfolding is_second records_in job_of_records entry as_written build
answer_to_sheet bs room = answer_for (is_second bs) (records_in bs) room

-- ---- what `vregs` prints

-- "A refusal prints `refused` and its number alone."
abbrev pub refusal_text : SheetRefusal → List ℕ
refusal_text r = line "refused" (decimal (sheet_number_of r) ∷ [])

unfoldable pub answer_text : SheetOut Result → List ℕ
unfolding lines_bytes printed decimal
answer_text (given' res) = lines_bytes (printed res)
answer_text (refused' r) = refusal_text r

-- "`vregs` reads a job on standard input"; it "prints".
unfoldable pub vregs_of : List ℕ → List ℕ
unfolding answer_text answer_to_sheet
vregs_of sheet = answer_text (answer_to_sheet sheet vregs_room)
