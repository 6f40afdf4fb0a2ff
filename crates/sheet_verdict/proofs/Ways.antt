-- One law for each way through the functions. Assumes nothing.
use mathlib.Core.Path.{◌≡◌, refl, sym, ap, subst, ◌∙◌}
use mathlib.Core.List.{List}
use mathlib.Core.Bool.{Bool, true, false, cond}
use mathlib.Core.Option.{Option, none, some}
use Prim.Native.Nat.{ℕ}
use Rattle.std.specs.Prelude.{Result, Ok, Err, IfOk}
use Rattle.words.specs.Words.{word_count, words_of}
use Rattle.definition.specs.declared.Refusal.{Refusal}
use Rattle.definition.specs.Entry.{entry}
use Rattle.definition.specs.declared.Refusal.TheVariants.{NotARecord, OverALimit}
use Rattle.definition.specs.declared.SheetRefusal.{SheetRefusal}
use Rattle.definition.specs.declared.SheetRefusal.TheVariants.{By}
use Rattle.definition.specs.SheetForms.{is_second, tenth_test, job_in}
use Rattle.job.specs.declared.Layout.{Layout}
use Rattle.job.specs.Job.{raw_job}
use Rattle.job_shape.specs.Shape.{Shaped}
use Rattle.entry.specs.declared.Entered.{Entered}
use Rattle.entry.specs.Number.{refusal_in}
use Rattle.sheet_rules.specs.Places.{table_words}
use Rattle.sheet.specs.Machine.{Answer}
use Rattle.sheet.specs.declared.first.SheetError.TheVariants.{Malformed, TooMany}
use Rattle.sheet.specs.declared.either.Reading.{Reading}
use Rattle.sheet.specs.Fronts.{front_at}
use Rattle.sheet.specs.Front.{formed, open_form, second_of}
use Rattle.sheet.specs.Stream.{Streamed}
use Rattle.sheet_laws.specs.Words.{none_some}
use Rattle.sheet_laws.specs.Agree.{all_bytes}
use Rattle.sheet_job.specs.Fixed.{fixed_layout}
use Rattle.sheet_job.specs.Answers.{alike_entry, accepted_same}
use Rattle.sheet_verdict.specs.Laws.{said_of}
use Rattle.sheet_verdict.specs.Read.{JobRead, ReadAs}
use Rattle.sheet_verdict.specs.Answers.{table_job}
use Rattle.sheet_verdict.specs.Verdict.{tenth_ok, verdict_read}
use Rattle.sheet_verdict.specs.Leads.{front, none_read, crowd_read, read_as}
use Rattle.sheet_verdict.specs.Judged.{implied_in, Ready, Tested, LeadsTo, Judged}

-- a verdict of tests 2 to 7 and 10 that is none has tests 2 to 7 that are none
passed_by : (o : Option Refusal) (w : Bool) → none ≡ tenth_test o w → o ≡ none
passed_by none w e = refl
passed_by (some r) w e = absurd (none_some e)

-- ---- the job's tests, and 10

module _ (second : Bool) (T : List ℕ) (lay : Layout) (Y K : List ℕ) where
  -- what is asked for 10
  abbrev written : Bool
  written = cond second (implied_in Y lay (raw_job (words_of T) lay)) true

  -- a test before 10 refuses it
  pub tested_refused : (r : Refusal) → some r ≡ entry (raw_job (words_of T) lay) → Tested second T lay Y K (Err (By r))
  tested_refused r h = record { refused = ap (λ (o : Option Refusal). tenth_test o written) h; ready = tt }

  module _ (n : none ≡ entry (raw_job (words_of T) lay)) where
    -- it passes
    module _ (e : Entered) (y : (e.lay ≡ lay) × Ready T K e) where
      tested_passed : written ≡ true → Tested second T lay Y K (Ok e)
      tested_passed w = record {
        refused = ap (λ (t : Bool). tenth_test none t) (sym w) ∙ ap (λ (o : Option Refusal). tenth_test o written) n;
        ready = y;
      }

      pub tested_second : second ≡ true → (b : Bool) → b ≡ implied_in Y lay (raw_job (words_of T) lay) → b ≡ true
          → Tested second T lay Y K (Ok e)
      tested_second s b i f = tested_passed
          (ap (λ (t : Bool). cond t (implied_in Y lay (raw_job (words_of T) lay)) true) s ∙ sym i ∙ f)

      pub tested_first : second ≡ false → Tested second T lay Y K (Ok e)
      tested_first s = tested_passed (ap (λ (t : Bool). cond t (implied_in Y lay (raw_job (words_of T) lay)) true) s)

-- ---- the sheets that lead here

pub shaped_read : (cur : Reading) (T U : List ℕ)
    → Streamed (open_form table_words 1536) (formed cur (words_of T) (words_of U))
    → word_count T ≡ table_words → word_count U ≡ 1536 → (a : Answer) → a ≡ said_of cur → a ≡ Ok tt
    → (lay : Layout) → lay ≡ fixed_layout (words_of T) → Shaped T lay
shaped_read cur T U s w k a i r lay l =
    let d : LeadsTo s.bytes cur (words_of T) (words_of U) =
    record { bytes = all_bytes s.bytes s.small; is = s.is } in
    subst (λ (x : Layout). Shaped T x) (sym l) ((read_as s.bytes cur T U w k d a i r).shaped refl)

module _ (cur : Reading) (T U K : List ℕ) (l : word_count T ≡ table_words) (k : word_count U ≡ 1536) (a : Answer)
    (i : a ≡ said_of cur) where
  pub judged_malformed : a ≡ Err Malformed → Judged cur T (words_of U) K (Err (By NotARecord))
  judged_malformed r = record { refused = λ sheet s. sym (none_read sheet cur T U l k s (sym i ∙ r)); job = tt; ready = tt }

  pub judged_crowded : a ≡ Err TooMany → Judged cur T (words_of U) K (Err (By OverALimit))
  judged_crowded r = record { refused = λ sheet s. sym (crowd_read sheet cur T U l k s (sym i ∙ r)); job = tt; ready = tt }

  pub judged_read : a ≡ Ok tt → (second : Bool) → second ≡ second_of (front_at cur.front) → (lay : Layout)
      → lay ≡ fixed_layout (words_of T) → (v : Result Entered SheetRefusal) → Tested second T lay (words_of U) K v
      → Judged cur T (words_of U) K v
  judged_read r second d lay q v t = record {
    refused = λ sheet s. of_tests sheet s ∙ sym (verdict_read sheet 0 T U (c sheet s) refl);
    job = the_job v t of_tests;
    ready = all_ready v t.ready;
  }
    where
      c : (sheet : List ℕ) → LeadsTo sheet cur (words_of T) (words_of U) → ReadAs sheet 0 T U
      c sheet s = read_as sheet cur T U l k s a i r

      tenth_is : (x : Bool) → cond x (implied_in (words_of U) (fixed_layout (words_of T)) (table_job (words_of T))) true
          ≡ tenth_ok x (words_of T) (words_of U)
      tenth_is true = refl
      tenth_is false = refl

      of_tests : (sheet : List ℕ) → LeadsTo sheet cur (words_of T) (words_of U)
          → refusal_in v ≡ tenth_test (entry (table_job (words_of T))) (tenth_ok (is_second sheet) (words_of T) (words_of U))
      of_tests sheet s =
          t.refused
          ∙ ap (λ (x : Layout). tenth_test (entry (raw_job (words_of T) x))
          (cond second (implied_in (words_of U) x (raw_job (words_of T) x)) true)) q
          ∙ ap (λ (x : Bool). tenth_test (entry (table_job (words_of T)))
          (cond x (implied_in (words_of U) (fixed_layout (words_of T)) (table_job (words_of T))) true))
          (d ∙ front sheet cur T U l k s)
          ∙ ap (λ (x : Bool). tenth_test (entry (table_job (words_of T))) x) (tenth_is (is_second sheet))

      all_ready : (w : Result Entered SheetRefusal) → IfOk w (λ e. (e.lay ≡ lay) × Ready T K e) → IfOk w (λ e. Ready T K e)
      all_ready (Ok e) y = y.1
      all_ready (Err f) y = tt

      the_job : (w : Result Entered SheetRefusal) → Tested second T lay (words_of U) K w
          → ((sheet : List ℕ) → LeadsTo sheet cur (words_of T) (words_of U)
          → refusal_in w ≡ tenth_test (entry (table_job (words_of T))) (tenth_ok (is_second sheet) (words_of T) (words_of U)))
          → IfOk w (λ e. (sheet : List ℕ) → LeadsTo sheet cur (words_of T) (words_of U) → job_in sheet ≡ some (raw_job (words_of T) e.lay))
      the_job (Err f) u of = tt
      the_job (Ok e) u of = λ sheet s.
          let j : JobRead sheet (words_of T) = (c sheet s).job refl in
          let p : entry (table_job (words_of T)) ≡ none =
          passed_by (entry (table_job (words_of T))) (tenth_ok (is_second sheet) (words_of T) (words_of U)) (of sheet s) in
          j.is
          ∙ ap some
          (sym (accepted_same (table_job (words_of T)) j.job j.alike
          (sym (alike_entry (table_job (words_of T)) j.job j.alike) ∙ p)))
          ∙ ap (λ (x : Layout). some (raw_job (words_of T) x)) (sym (u.ready.0 ∙ q))
