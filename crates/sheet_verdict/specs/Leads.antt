-- What the state that a sheet leads the reader to says of the sheet. Assumes nothing.
use Rattle.std.specs.Prelude.{◌≡◌, refl, List, Bool, true, ℕ, Ok, Err}
use Rattle.std.proofs.Common.{sym, ap, ◌∙◌}
use Rattle.std.proofs.Math.Option.{Option, none, some}
use Rattle.words.specs.Words.{word_count, words_of}
use Rattle.definition.specs.declared.Refusal.TheVariants.{NotARecord, OverALimit}
use Rattle.definition.specs.Text.{◌>>=◌}
use Rattle.definition.specs.JobSheet.{Record, job_of_records}
use Rattle.definition.specs.declared.SheetRefusal.TheVariants.{By}
use Rattle.definition.specs.SheetForms.{is_second, verdict, job_in}
use Rattle.sheet_rules.specs.Places.{table_words}
use Rattle.sheet.specs.Machine.{Answer}
use Rattle.sheet.specs.declared.first.SheetError.TheVariants.{Malformed, TooMany}
use Rattle.sheet.specs.declared.either.Reading.{Reading}
use Rattle.sheet.specs.Fronts.{front_at}
use Rattle.sheet.specs.Front.{Formed, second_of}
use Rattle.sheet_laws.specs.Words.{none_some}
use Rattle.sheet_laws.specs.Table.{Filled, fill, blank}
use Rattle.sheet_laws.specs.Agree.{outcome}
use Rattle.sheet_laws.specs.Sheets.{On, Sound}
use Rattle.sheet_job.specs.Answers.{full, over_entry}
use Rattle.sheet_laws.specs.Read.{bare_in, bare_in_sound, bare_in_job, forms_front}
use Rattle.sheet_verdict.specs.Read.{ReadAs, sheet_table}
use Rattle.sheet_verdict.specs.Laws.{said_of, Went, agreed, read_sheet}
use Rattle.sheet_verdict.specs.Answers.{no_job, job_refused}
use Rattle.sheet_verdict.specs.Judged.{LeadsTo}

-- ---- the sheets that lead here

module _ (sheet : List ℕ) (cur : Reading) (T U : List ℕ) (l : word_count T ≡ table_words) (k : word_count U ≡ 1536)
    (s : LeadsTo sheet cur (words_of T) (words_of U)) where
  went_over : Went table_words sheet cur T U
  went_over = record { bytes = s.bytes; is = s.is; long = l; all = refl; room = k }

  pub front : second_of (front_at cur.front) ≡ is_second sheet
  front = ap (λ (f : Formed). second_of f.at.front) s.is ∙ forms_front table_words 1536 sheet s.bytes

  -- by what the reader says
  pub none_read : said_of cur ≡ Err Malformed → verdict sheet ≡ some (By NotARecord)
  none_read i = no_job sheet (go (bare_in sheet) (bare_in_job sheet) (agreed table_words sheet cur T U went_over))
    where
      go : (m : Option (List Record)) → (m >>= λ rs. some (job_of_records rs)) ≡ job_in sheet
          → outcome (said_of cur) (words_of T) ≡ (m >>= λ rs. some (fill (blank table_words) rs)) → job_in sheet ≡ none
      go none j q = sym j
      go (some rs) j q = absurd (none_some (sym (ap (λ (a : Answer). outcome a (words_of T)) i) ∙ q))

  pub crowd_read : said_of cur ≡ Err TooMany → verdict sheet ≡ some (By OverALimit)
  crowd_read i =
      go (bare_in sheet) (bare_in_job sheet) (bare_in_sound sheet) (agreed table_words sheet cur T U went_over)
    where
      over : Option Filled → Bool
      over none = true
      over (some f) = f.over

      go : (m : Option (List Record)) → (m >>= λ rs. some (job_of_records rs)) ≡ job_in sheet → On Sound m
          → outcome (said_of cur) (words_of T) ≡ (m >>= λ rs. some (fill (blank table_words) rs))
          → verdict sheet ≡ some (By OverALimit)
      go none j h q = absurd (none_some (sym (sym (ap (λ (a : Answer). outcome a (words_of T)) i) ∙ q)))
      go (some rs) j h q =
          let v : (fill (blank table_words) rs).over ≡ true =
          ap over (sym (sym (ap (λ (a : Answer). outcome a (words_of T)) i) ∙ q)) in
          job_refused sheet (job_of_records rs) OverALimit (sym j)
          (over_entry (job_of_records rs) (full table_words refl rs h v))

  pub read_as : (a : Answer) → a ≡ said_of cur → a ≡ Ok tt → ReadAs sheet 0 T U
  read_as a i r = read_sheet table_words sheet cur T U went_over a i r

  -- where the verdict is none, the table is the sheet's
  pub table_read : verdict sheet ≡ none → words_of T ≡ sheet_table table_words sheet
  table_read e = go (said_of cur) refl
    where
      go : (a : Answer) → said_of cur ≡ a → words_of T ≡ sheet_table table_words sheet
      go (Ok tt) i = (read_as (Ok tt) (sym i) refl).table ∙ ap (λ (n : ℕ). sheet_table n sheet) l
      go (Err Malformed) i = absurd (none_some (sym e ∙ none_read i))
      go (Err TooMany) i = absurd (none_some (sym e ∙ crowd_read i))
