-- The verdict on a sheet of either form, and what is known of one that passes. Assumes nothing.
use Rattle.std.specs.Prelude.{◌≡◌, Bool, true, cond, Result, IfOk, List, ℕ, take, drop}
use Rattle.std.proofs.Math.Option.{Option, none, some}
use Rattle.words.specs.Words.{words_of}
use Rattle.definition.specs.Types.{Job}
use Rattle.definition.specs.Entry.{entry}
use Rattle.definition.specs.declared.SheetRefusal.{SheetRefusal}
use Rattle.definition.specs.SheetForms.{sheet_number_of, as_implied, tenth_test, verdict, job_in}
use Rattle.job.specs.declared.Layout.{Layout}
use Rattle.job.specs.Job.{raw_job}
use Rattle.entry.specs.declared.Entered.{Entered}
use Rattle.entry.specs.Number.{refusal_in}
use Rattle.entry.specs.Accepted.{Accepted, Prepared}
use Rattle.sheet_rules.specs.Places.{table_words}
use Rattle.sheet.specs.declared.either.Reading.{Reading}
use Rattle.sheet.specs.Front.{formed, run_form, open_form}
use Rattle.sheet_laws.specs.Words.{Bytes}

-- the number of a verdict; 0 for none
abbrev pub verdict_number : Option SheetRefusal → ℕ
verdict_number none = 0
verdict_number (some r) = sheet_number_of r

-- whether the words Y that were kept of a sheet are what its job implies
abbrev pub implied_in : List ℕ → Layout → Job → Bool
implied_in Y lay job = as_implied (take lay.blocks.n Y) (take lay.segments.n (drop 512 Y)) job

-- a job that passes is known, and the work words K are made ready for its build
abbrev pub Ready : List ℕ → List ℕ → Entered → Type 0
Ready T K e = Accepted T K e.lay e.wl e.insts × Prepared (words_of T) K e.lay e.wl

-- tests 2 to 7 on the job of the bytes T, then 10 in the second form
pub record Tested (second : Bool) (T : List ℕ) (lay : Layout) (Y K : List ℕ) (r : Result Entered SheetRefusal) : Type 0 where
  pub refused : refusal_in r
      ≡ tenth_test (entry (raw_job (words_of T) lay)) (cond second (implied_in Y lay (raw_job (words_of T) lay)) true)
  pub ready : IfOk r (λ e. (e.lay ≡ lay) × Ready T K e)

-- the bytes of a sheet lead the reader to the state cur, the words W and the kept words Y
pub record LeadsTo (sheet : List ℕ) (cur : Reading) (W Y : List ℕ) : Type 0 where
  pub bytes : Bytes sheet
  pub is : formed cur W Y ≡ run_form (open_form table_words 1536) sheet

-- r is the verdict on every such sheet; where it passes, the table T stands for its job
pub record Judged (cur : Reading) (T Y K : List ℕ) (r : Result Entered SheetRefusal) : Type 0 where
  pub refused : (sheet : List ℕ) → LeadsTo sheet cur (words_of T) Y → refusal_in r ≡ verdict sheet
  pub job : IfOk r
      (λ e. (sheet : List ℕ) → LeadsTo sheet cur (words_of T) Y → job_in sheet ≡ some (raw_job (words_of T) e.lay))
  pub ready : IfOk r (λ e. Ready T K e)
