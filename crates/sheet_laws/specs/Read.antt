-- What the machine says of a sheet of either form, by its bare records. Assumes nothing.
use Rattle.std.specs.Prelude.{◌≡◌, List, Bool, cond, ℕ, ◌≤◌, length}
use Rattle.std.proofs.Math.Path.{refl, ap}
use Rattle.std.proofs.Common.{sym, subst, ◌∙◌}
use Rattle.std.proofs.Math.Bool.{true, false}
use Rattle.std.proofs.Math.Option.{Option, none, some}
use Rattle.definition.specs.Text.{◌>>=◌}
use Rattle.definition.specs.JobSheet.{block, seg, Record, only, sheet_of, job_of_records}
use Rattle.definition.specs.SheetForms.{is_second, behind_form, second_sheet, records_in, job_in, written_firsts, written_sets}
use Rattle.definition.specs.Conversion.{shrunk}
use Rattle.sheet.specs.Fields.{Fed}
use Rattle.sheet.specs.Machine.{Answer, open_of, answer_of}
use Rattle.sheet.specs.Front.{Keeping, Formed, run_form, open_form, second_of, finish_of}
use Rattle.sheet_laws.specs.Words.{Bytes, none_some}
use Rattle.sheet_laws.specs.Table.{Filled, fill, blank}
use Rattle.sheet_laws.specs.Agree.{outcome, agree}
use Rattle.sheet_laws.specs.Sheets.{On, Sound, sheet_sound}
use Rattle.sheet_laws.specs.Choices.{ChosenRecords, sheet_chosen}
use Rattle.sheet_laws.specs.Views.{Ended, with_kept}
use Rattle.sheet_laws.specs.Bare.{keep_all}
use Rattle.sheet_laws.specs.Sheet.{OfFirst, ended_by, none_kept, forms_first, forms_second}
use Rattle.sheet_laws.specs.Jobs.{SoundSecond, second_sound, bare_sound, bare_choices, bare_job}
use Rattle.sheet_laws.specs.Kept.{kept_words, kept_words_lem}

-- the records of a sheet without its written fields
abbrev pub bare_of : Bool → Option (List Record) → Option (List Record)
bare_of true m = m >>= λ rs. some (shrunk rs)
bare_of false m = m

unfoldable pub bare_in : List ℕ → Option (List Record)
unfolding is_second records_in shrunk
bare_in bs = bare_of (is_second bs) (records_in bs)

module _ (bs : List ℕ) where
  bare_first : is_second bs ≡ false → bare_in bs ≡ sheet_of bs
  unfolding bare_in records_in
  bare_first e = ap (λ (t : Bool). bare_of t (cond t (second_sheet (behind_form bs)) (sheet_of bs))) e

  bare_second : is_second bs ≡ true → bare_in bs ≡ (second_sheet (behind_form bs) >>= λ rs. some (shrunk rs))
  unfolding bare_in records_in
  bare_second e = ap (λ (t : Bool). bare_of t (cond t (second_sheet (behind_form bs)) (sheet_of bs))) e

  pub bare_in_sound : On Sound (bare_in bs)
  bare_in_sound = go (is_second bs) refl
    where
      by : (m : Option (List Record)) → On SoundSecond m → On Sound (m >>= λ rs. some (shrunk rs))
      by none h = tt
      by (some rs) h = bare_sound rs h

      go : (t : Bool) → is_second bs ≡ t → On Sound (bare_in bs)
      go true e = subst (On Sound) (sym (bare_second e))
          (by (second_sheet (behind_form bs)) (second_sound (behind_form bs)))
      go false e = subst (On Sound) (sym (bare_first e)) (sheet_sound bs)

  pub bare_in_chosen : On ChosenRecords (bare_in bs)
  bare_in_chosen = go (is_second bs) refl
    where
      by : (m : Option (List Record)) → On SoundSecond m → On ChosenRecords (m >>= λ rs. some (shrunk rs))
      by none h = tt
      by (some rs) h = bare_choices rs h

      go : (t : Bool) → is_second bs ≡ t → On ChosenRecords (bare_in bs)
      go true e = subst (On ChosenRecords) (sym (bare_second e))
          (by (second_sheet (behind_form bs)) (second_sound (behind_form bs)))
      go false e = subst (On ChosenRecords) (sym (bare_first e)) (sheet_chosen bs)

  -- their job is the sheet's
  pub bare_in_job : (bare_in bs >>= λ rs. some (job_of_records rs)) ≡ job_in bs
  unfolding bare_in job_in
  bare_in_job = go (is_second bs) (records_in bs)
    where
      go : (t : Bool) (m : Option (List Record))
          → (bare_of t m >>= λ rs. some (job_of_records rs)) ≡ (m >>= λ rs. some (job_of_records rs))
      go true none = refl
      go true (some rs) = ap some (bare_job rs)
      go false none = refl
      go false (some rs) = refl

-- ---- the machine behind the last byte

the : Option Ended → Keeping → Keeping
the none t = t
the (some e) t = e.keeping

table : Option Ended → Option Filled
table none = none
table (some e) = some e.filled

module _ (n m : ℕ) (bs : List ℕ) (b : Bytes bs) where
  abbrev end : Formed
  end = run_form (open_form n m) bs

  -- whether it is of the second form
  pub forms_front : second_of end.at.front ≡ is_second bs
  forms_front = go (is_second bs) refl
    where
      go : (t : Bool) → is_second bs ≡ t → second_of end.at.front ≡ t
      go true e = (forms_second n m bs b e).0
      go false e = (forms_first n m bs e).front

  -- THE LAW: it ends malformed where the bytes are no sheet, and else with the table that the sheet's bare records fill
  pub forms_bare : outcome (finish_of end.at.front end.at.fed.next) end.at.fed.out
      ≡ (bare_in bs >>= λ rs. some (fill (blank n) rs))
  unfolding table
  forms_bare = go (is_second bs) refl
    where
      kept_table : (t : Keeping) (o : Option Filled) → table (with_kept t o) ≡ o
      kept_table t none = refl
      kept_table t (some f) = refl

      tables : (q : Option (List Record))
          → table (q >>= λ rs. some (ended_by n (none_kept m) rs))
          ≡ ((q >>= λ rs. some (shrunk rs)) >>= λ rs. some (fill (blank n) rs))
      tables none = refl
      tables (some rs) = refl

      go : (t : Bool) → is_second bs ≡ t
          → outcome (finish_of end.at.front end.at.fed.next) end.at.fed.out
          ≡ (bare_in bs >>= λ rs. some (fill (blank n) rs))
      go true e =
          sym (kept_table end.keeping (outcome (finish_of end.at.front end.at.fed.next) end.at.fed.out))
          ∙ ap table (forms_second n m bs b e).1
          ∙ tables (second_sheet (behind_form bs))
          ∙ ap (λ (q : Option (List Record)). q >>= λ rs. some (fill (blank n) rs)) (sym (bare_second bs e))
      go false e =
          let f : OfFirst (open_of n) (none_kept m) bs end = forms_first n m bs e in
          ap (λ (a : Answer). outcome a end.at.fed.out) (f.finish end.at.fed.next)
          ∙ ap (λ (g : Fed). outcome (answer_of g.next) g.out) f.fed
          ∙ agree bs b n
          ∙ ap (λ (q : Option (List Record)). q >>= λ rs. some (fill (blank n) rs)) (sym (bare_first bs e))

  -- in the first form no field was kept
  pub none_written : is_second bs ≡ false → end.keeping ≡ none_kept m
  none_written e = (forms_first n m bs e).keeping

-- in the second form all of them, within the limits
pub all_written : (n : ℕ) (bs : List ℕ) → Bytes bs → is_second bs ≡ true → (rs : List Record)
    → second_sheet (behind_form bs) ≡ some rs → length (only block rs) ≤ 512 → length (only seg rs) ≤ 1024
    → (run_form (open_form n 1536) bs).keeping.words ≡ kept_words (written_firsts rs) (written_sets rs)
unfolding the
all_written n bs b e rs q p s =
    ap (λ (k : Keeping). k.words)
    (kept (outcome (finish_of f.at.front f.at.fed.next) f.at.fed.out) ((forms_second n 1536 bs b e).1
    ∙ ap (λ (m : Option (List Record)). m >>= λ ks. some (ended_by n (none_kept 1536) ks)) q))
    ∙ kept_words_lem rs (subst (On SoundSecond) q (second_sound (behind_form bs))).bared p s
  where
    f : Formed
    f = run_form (open_form n 1536) bs

    kept : (o : Option Filled) → with_kept f.keeping o ≡ some (ended_by n (none_kept 1536) rs)
        → f.keeping ≡ keep_all (none_kept 1536) rs
    kept none w = absurd (none_some w)
    kept (some g) w = ap (λ (x : Option Ended). the x f.keeping) w
