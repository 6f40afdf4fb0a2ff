-- The answer to a sheet of either form, from the contract of its reader alone. Assumes nothing.
use Rattle.std.specs.Prelude.{◌≡◌, Bool, ℕ, ◌≤◌}
use Rattle.std.proofs.Math.Path.{refl, sym, ap}
use Rattle.std.proofs.Common.{◌∙◌, arith}
use mathlib.Core.List.{List}
use Rattle.std.proofs.Math.Bool.{true, false, cond}
use Rattle.std.proofs.Math.Option.{Option, none, some}
use Rattle.words.specs.Words.{word_count, words_of}
use Rattle.definition.specs.declared.Refusal.{Refusal}
use Rattle.definition.specs.declared.Refusal.TheVariants.{NotARecord, OverALimit}
use Rattle.definition.specs.Types.{Job, Room, Out}
use Rattle.definition.specs.Build.{Result}
use Rattle.definition.specs.Entry.{entry, answer}
use Rattle.definition.specs.Text.{◌>>=◌}
use Rattle.definition.specs.JobSheet.{Record, job_of_records, job_of_sheet, answer_or_one, sheet_answer}
use Rattle.definition.specs.declared.SheetRefusal.TheVariants.{By}
use Rattle.definition.specs.SheetForms.{is_second, records_in, job_in, as_written}
use Rattle.definition.specs.SheetForms.{tenth_test, verdict_of, verdict, lift, answer_to_sheet}
use Rattle.definition.proofs.Forms.{first_records, as_before, answer_refused as refused-so}
use Rattle.job.specs.Job.{raw_job}
use Rattle.sheet_laws.specs.Words.{none_some}
use Rattle.sheet_laws.specs.Table.{fill, blank}
use Rattle.sheet_laws.specs.Sheets.{On, Sound}
use Rattle.sheet_job.specs.Fixed.{fixed_layout}
use Rattle.sheet_job.specs.Answers.{alike_entry, alike_answer, over_entry, full}
use Rattle.sheet_laws.specs.Read.{bare_in, bare_in_sound, bare_in_job}
use Rattle.sheet_verdict.specs.Read.{records_fit, records_number, sheet_number, JobRead, ReadAs, RefusedBy}
use Rattle.sheet_verdict.specs.Laws.{fill_fits}

-- ---- the verdict on a sheet, by its job

module _ (sheet : List ℕ) where
  pub no_job : job_in sheet ≡ none → verdict sheet ≡ some (By NotARecord)
  unfolding job_in verdict
  no_job e = go (records_in sheet) e
    where
      go : (m : Option (List Record)) → (m >>= λ rs. some (job_of_records rs)) ≡ none
          → verdict_of (is_second sheet) m ≡ some (By NotARecord)
      go none h = refl
      go (some rs) h = absurd (none_some (sym h))

  -- tests 2 to 7 come before 10
  pub job_refused : (job : Job) (r : Refusal) → job_in sheet ≡ some job → entry job ≡ some r → verdict sheet ≡ some (By r)
  unfolding job_in verdict
  job_refused job r e h = go (is_second sheet) (records_in sheet) e
    where
      the : Option Job → Job
      the none = job
      the (some k) = k

      go : (t : Bool) (m : Option (List Record)) → (m >>= λ rs. some (job_of_records rs)) ≡ some job
          → verdict_of t m ≡ some (By r)
      go t none q = absurd (none_some q)
      go true (some rs) q = ap (λ (o : Option Refusal). tenth_test o (as_written rs))
          (ap (λ (k : Option Job). entry (the k)) q ∙ h)
      go false (some rs) q = ap (λ (o : Option Refusal). tenth_test o true) (ap (λ (k : Option Job). entry (the k)) q
          ∙ h)

-- ---- the laws of the reader's numbers

-- the job of a table's words
abbrev pub table_job : List ℕ → Job
table_job W = raw_job W (fixed_layout W)

module _ (sheet : List ℕ) (r : ℕ) (x y : List ℕ) (c : ReadAs sheet r x y) where
  -- THE LAW of numbers 1 and 2: the sheet is refused by that number, whatever the room
  pub answer_refused : 1 ≤ r → RefusedBy sheet r
  unfolding sheet_number
  answer_refused h = go (bare_in sheet) (bare_in_job sheet) (bare_in_sound sheet) c.number
    where
      by : (rs : List Record) → some (job_of_records rs) ≡ job_in sheet → Sound rs → (t : Bool) → records_fit rs ≡ t
          → r ≡ records_number (some rs) → RefusedBy sheet r
      by rs i s true q d = absurd (omega (arith, h, d ∙ ap (λ (u : Bool). cond u 0 2) q))
      by rs i s false q d =
          let v : (fill (blank (word_count x)) rs).over ≡ true = fill_fits (word_count x) c.long rs false q in
          let e : entry (job_of_records rs)
          ≡ some OverALimit = over_entry (job_of_records rs) (full (word_count x) c.long rs s v) in
          record {
            cause = OverALimit;
            number = sym (d ∙ ap (λ (u : Bool). cond u 0 2) q);
            answer = λ room.
                refused-so sheet room (By OverALimit) (job_refused sheet (job_of_records rs) OverALimit (sym i) e);
          }

      go : (m : Option (List Record)) → (m >>= λ rs. some (job_of_records rs)) ≡ job_in sheet → On Sound m
          → r ≡ records_number m
          → RefusedBy sheet r
      go none i s d = record {
        cause = NotARecord;
        number = sym d;
        answer = λ room. refused-so sheet room (By NotARecord) (no_job sheet (sym i));
      }
      go (some rs) i s d = by rs i s (records_fit rs) refl d

  -- THE LAWS of number 0: the entry tests say of the table's job what they say of the sheet's
  pub entry_read : (z : r ≡ 0) → entry (table_job (words_of x)) ≡ entry (c.job z).job
  entry_read z = alike_entry (table_job (words_of x)) (c.job z).job (c.job z).alike

  -- a sheet of the first form is answered as the table's job is
  pub answer_read : r ≡ 0 → is_second sheet ≡ false → (room : Room)
      → answer_to_sheet sheet room ≡ lift (answer (table_job (words_of x)) room)
  unfolding sheet_answer job_of_sheet job_in
  answer_read z f room =
      let k : JobRead sheet (words_of x) = c.job z in
      as_before sheet room f
      ∙ ap (λ (m : Option (List Record)). lift (answer_or_one (m >>= λ rs. some (job_of_records rs)) room))
      (sym (first_records sheet f))
      ∙ ap (λ (o : Option Job). lift (answer_or_one o room)) k.is
      ∙ ap (λ (o : Out Result). lift o) (sym (alike_answer (table_job (words_of x)) k.job room k.alike))
