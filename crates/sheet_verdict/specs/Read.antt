-- What the reader says of a whole sheet of either form, and leaves in its two tables. Assumes nothing.
use Rattle.std.specs.Prelude.{◌≡◌, List, [], ◌∷◌, Bool, true, false, cond, ℕ, ◌≤◌, length, replicate, leb, Ok, Err}
use Rattle.std.proofs.Math.Option.{Option, none, some}
use Rattle.words.specs.Words.{word_count, words_of}
use Rattle.definition.specs.declared.Refusal.{Refusal}
use Rattle.definition.specs.Types.{Job, Room, number_of}
use Rattle.definition.specs.Limits.{max_blocks, max_values, max_vgroups, max_operands, max_hints, max_segments, max_uses}
use Rattle.definition.specs.Limits.{max_classes, max_banks, max_regs}
use Rattle.definition.specs.Entry.{conj}
use Rattle.definition.specs.JobSheet.{bank, class, reg, block, value, vgroup, operand, hint, seg, use', Record, only}
use Rattle.definition.specs.declared.SheetRefusal.TheVariants.{By}
use Rattle.definition.specs.SheetForms.{is_second, records_in, job_in, written_firsts, written_sets, refused', answer_to_sheet}
use Rattle.job.specs.Job.{raw_job}
use Rattle.job_shape.specs.Shape.{Shaped}
use Rattle.sheet_rules.specs.Places.{table_words}
use Rattle.sheet.specs.declared.first.SheetError.TheVariants.{Malformed, TooMany}
use Rattle.sheet.specs.Machine.{Answer}
use Rattle.sheet_laws.specs.Table.{fill, blank}
use Rattle.sheet_job.specs.Fixed.{fixed_layout}
use Rattle.sheet_job.specs.Jobs.{Alike}
use Rattle.sheet_laws.specs.Kept.{kept_words}
use Rattle.sheet_laws.specs.Read.{bare_in}

-- the number of what the reader says; 0 for a job sheet
abbrev pub number_said : Answer → ℕ
number_said (Ok tt) = 0
number_said (Err Malformed) = 1
number_said (Err TooMany) = 2

-- no kind of record passes its limit
abbrev pub record_tests : List Record → List Bool
record_tests rs =
    leb (length (only bank rs)) max_banks ∷ leb (length (only class rs)) max_classes ∷ leb (length (only reg rs)) max_regs
    ∷ leb (length (only block rs)) max_blocks ∷ leb (length (only value rs)) max_values ∷ leb
    (length (only vgroup rs)) max_vgroups
    ∷ leb (length (only operand rs)) max_operands ∷ leb (length (only hint rs)) max_hints ∷ leb
    (length (only seg rs)) max_segments
    ∷ leb (length (only use' rs)) max_uses ∷ []

unfoldable pub records_fit : List Record → Bool
unfolding conj only
records_fit rs = conj (record_tests rs)

-- 1 where there is no sheet, 2 where a kind of record passes its limit, else 0
abbrev pub records_number : Option (List Record) → ℕ
records_number none = 1
records_number (some rs) = cond (records_fit rs) 0 2

-- in a table of n words: the rows of the records, or zeros
abbrev pub records_table : ℕ → Option (List Record) → List ℕ
records_table n none = replicate n 0
records_table n (some rs) = cond (records_fit rs) (fill (blank n) rs).out (replicate n 0)

-- the number of the bytes of a sheet in its form
unfoldable pub sheet_number : List ℕ → ℕ
unfolding bare_in records_fit
sheet_number sheet = records_number (bare_in sheet)

-- the n words that they leave
unfoldable pub sheet_table : ℕ → List ℕ → List ℕ
unfolding bare_in records_fit fill
sheet_table n sheet = records_table n (bare_in sheet)

-- the 1,536 words for written fields: those of records of the second form within the limits, or zeros
abbrev pub records_written : Bool → Option (List Record) → List ℕ
records_written false m = replicate 1536 0
records_written true none = replicate 1536 0
records_written true (some rs) = cond (records_fit rs) (kept_words (written_firsts rs) (written_sets rs)) (replicate 1536 0)

unfoldable pub written_table : List ℕ → List ℕ
unfolding is_second records_in records_fit kept_words written_firsts written_sets
written_table sheet = records_written (is_second sheet) (records_in sheet)

-- zeros everywhere, in the bytes behind the last word too
pub record Cleared (x y : List ℕ) : Type 0 where
  pub bytes : y ≡ replicate (length x) 0
  pub words : words_of y ≡ replicate (word_count x) 0

-- the bytes are a sheet, and the words W by their fixed layout are its job, but for value groups of more than eight
-- members
pub record JobRead (sheet W : List ℕ) : Type 0 where
  pub job : Job
  pub is : job_in sheet ≡ some job
  pub alike : Alike (raw_job W (fixed_layout W)) job

-- the number r, the bytes x of the table and the bytes y for written fields are what a sheet's bytes give
pub record ReadAs (sheet : List ℕ) (r : ℕ) (x y : List ℕ) : Type 0 where
  pub number : r ≡ sheet_number sheet
  pub long : word_count x ≡ table_words
  pub table : words_of x ≡ sheet_table (word_count x) sheet
  pub written : words_of y ≡ written_table sheet
  pub zeros : 1 ≤ r → (x ≡ replicate (length x) 0) × (y ≡ replicate (length y) 0)
  pub job : r ≡ 0 → JobRead sheet (words_of x)
  pub shaped : r ≡ 0 → Shaped x (fixed_layout (words_of x))

-- a sheet is refused by the number r, whatever the room
pub record RefusedBy (sheet : List ℕ) (r : ℕ) : Type 0 where
  pub cause : Refusal
  pub number : number_of cause ≡ r
  pub answer : (room : Room) → answer_to_sheet sheet room ≡ refused' (By cause)
