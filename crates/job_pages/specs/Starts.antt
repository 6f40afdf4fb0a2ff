-- From the sheet that was read to the first line that is written. Assumes nothing.
use Rattle.std.specs.Prelude.{◌≡◌, Bool, true, not, cond, ℕ, ◌+◌, ◌≤◌, length, get_or, replicate}
use Rattle.std.proofs.Math.Path.{refl, sym, ap, subst}
use Rattle.std.proofs.Common.{◌∙◌, arith}
use Rattle.std.proofs.Math.Logic.{inl}
use Rattle.std.proofs.Math.Bool.{false}
use Rattle.std.proofs.Math.Option.{Option, none, some}
use mathlib.Core.List.{List, [], ◌∷◌, map}
use Rattle.definition.specs.declared.Refusal.{Refusal}
use Rattle.definition.specs.declared.SheetRefusal.{SheetRefusal}
use Rattle.definition.specs.Types.{Job}
use Rattle.definition.specs.Place.{total}
use Rattle.definition.specs.Entry.{insts_of, insts, entry}
use Rattle.definition.specs.JobSheet.{Word, opt, block, word_number, Record, at, only, block_data_of, job_of_records}
use Rattle.definition.specs.SheetForms.{is_second, records_in, as_written, tenth_test, verdict_of, verdict}
use Rattle.definition.specs.SheetForms.{given', given_unless}
use Rattle.definition.specs.Conversion.{sheet_text, rec, shrunk, moved_records, moved_sheet, already}
use Rattle.definition.specs.Conversion.{move_to}
use Rattle.definition.proofs.Entries.{accepted_insts}
use Rattle.definition.proofs.Conversions.{other_form, moved_other}
use Rattle.values.specs.ValueRows.{values_at}
use Rattle.job.specs.Job.{job_by, raw_job}
use Rattle.sheet_rules.specs.Places.{bases, base_of, widths, width_of, limits, limit_of, stored_fields, stored_of}
use Rattle.sheet_rules.specs.Places.{row_at, table_words}
use Rattle.sheet_laws.specs.Words.{none_some}
use Rattle.sheet_laws.specs.Values.{Small}
use Rattle.sheet_laws.specs.Table.{fill, blank}
use Rattle.sheet_laws.specs.Regions.{first_of, cell, count_is}
use Rattle.sheet_laws.specs.Stands.{Row, NoOpt, SmallRecords, stands}
use Rattle.sheet_laws.specs.Counts.{good_zeros, zero_count}
use Rattle.sheet_laws.specs.Sheets.{On, Opened, opened, Sound}
use Rattle.sheet_job.specs.Fixed.{table_at, fixed_layout}
use Rattle.sheet_job.specs.Jobs.{opt_stands, table_job}
use Rattle.sheet_job.specs.Answers.{over_entry, full}
use Rattle.sheet_laws.specs.Jobs.{bare_job}
use Rattle.sheet_laws.specs.Read.{bare_of, bare_in, bare_in_sound}
use Rattle.sheet_verdict.specs.Read.{records_fit, records_table, sheet_table}
use Rattle.sheet_verdict.specs.Laws.{counted, few, fill_fits}
use Rattle.job_pages.specs.Cursors.{at_start, shown_row, rows_in, front_text}
use Rattle.job_pages.specs.Left.{Fair, Each, insts_in, OptStands, Going, Left, text_left}
use Rattle.job_pages.specs.Fair.{fair}

-- the words T have the bare records of a sheet left at the start
pub record Begins (sheet T : List ℕ) : Type 0 where
  pub records : List Record
  pub are : bare_in sheet ≡ some records
  pub left : Left T (job_of_records records) at_start records

-- the words T have some records left at the start, and their text is the sheet in the form that is asked for
pub record Moves (asked : Bool) (sheet T : List ℕ) : Type 0 where
  pub job : Job
  pub records : List Record
  pub left : Left T job at_start records
  pub is : move_to asked sheet ≡ given' (text_left asked job at_start records)

-- ---- the records at the start of the table that they fill

insts_are : (nss : List (List ℕ)) → total (λ b. b.insts) (map block_data_of nss) ≡ insts_in nss
unfolding total block_data_of
insts_are [] = refl
insts_are (ns ∷ nss) = ap (λ (k : ℕ). at ns 0 + k) (insts_are nss)

insts_few : (rs : List Record) → entry (job_of_records rs) ≡ none → insts_in (only block rs) ≤ 4096
unfolding job_of_records insts insts_of
insts_few rs e =
    subst (λ (k : ℕ). k ≤ 4096) (insts_are (only block rs)) (accepted_insts (job_of_records rs) e)

opt_row : (w : Word) → w ≡ opt → (ns : List ℕ) (rest : List Record)
    → (fill (blank table_words) (rec w ns ∷ rest)).over ≡ false → NoOpt rest → Small ns → (u : ℕ)
    → Row (fill (blank table_words) (rec w ns ∷ rest)).out 0 0 ns u
unfolding bases base_of widths width_of limits limit_of stored_fields stored_of
opt_row w i ns rest =
    subst
    (λ (x : Word). (fill (blank table_words) (rec x ns ∷ rest)).over ≡ false → NoOpt rest → Small ns → (u : ℕ)
    → Row (fill (blank table_words) (rec x ns ∷ rest)).out 0 0 ns u) (sym i)
    (λ v p s u. record {
      within = omega arith;
      fields =
          λ j h.
          let a : cell 0 0 (first_of 0 + j) ≡ 10 + j = omega arith in
          ap (λ (k : ℕ). get_or (fill (blank table_words) (rec opt ns ∷ rest)).out k 0) a
          ∙ opt_stands table_words refl ns rest v p s j h;
      members = λ e. absurd (omega (arith, e));
      before = λ e. absurd (omega (arith, e));
    })

module _ (rs : List Record) (s : Sound rs) (e : entry (job_of_records rs) ≡ none) where
  abbrev table : List ℕ
  table = (fill (blank table_words) rs).out

  fits : records_fit rs ≡ true
  fits = go (records_fit rs) refl
    where
      go : (t : Bool) → records_fit rs ≡ t → t ≡ true
      go true p = refl
      go false p =
          absurd (none_some (sym e ∙ over_entry (job_of_records rs)
          (full table_words refl rs s (fill_fits table_words refl rs false p))))

  under : (fill (blank table_words) rs).over ≡ false
  under = fill_fits table_words refl rs true fits

  count : (w : Word) → 1 ≤ word_number w → word_number w ≤ 10 → rows_in table (word_number w) ≡ length (only w rs)
  count w a b = ap (λ (k : ℕ). get_or table k 0) (sym (count_is (word_number w) a b))
      ∙ counted table_words refl rs under w a b

  values_are : (job_of_records rs).values ≡ values_at table (row_at 5 0) (rows_in table 5)
  unfolding raw_job job_by fixed_layout table_at row_at bases base_of widths width_of limits limit_of
  values_are = sym (table_job table_words refl rs s under).values

  going : Each Fair rs → Going table (job_of_records rs) at_start rs
  unfolding shown_row job_of_records
  going h = record {
    kind = opt;
    key = refl;
    rows = λ k. 0;
    stands =
        stands rs (blank table_words) (λ k. 0) (good_zeros table_words refl) under s.small
        (λ k a b. sym (zero_count table_words refl k));
    opt_stands = λ k. first rs s.small under (opened rs s.order);
    counts = λ w a b. omega (arith, count w a b);
    few = λ w a b. omega (arith, count w a b, few table_words refl rs under w a b);
    order = s.order;
    row = refl;
    last = λ q. absurd (omega (arith, ap word_number q));
    low = omega arith;
    segs = refl;
    uses = refl;
    fresh = λ k a b c d. refl;
    fair = h;
    insts = omega (arith, insts_few rs e);
    values = values_are;
  }
    where
      first : (xs : List Record) → SmallRecords xs → (fill (blank table_words) xs).over ≡ false → Opened xs
          → OptStands (fill (blank table_words) xs).out 0 xs
      first [] a b c = tt
      first (r ∷ rest) a b c = opt_row r.word c.0 r.fields rest b c.1 a.0

-- ---- a sheet that passes

entry_none : (o : Option Refusal) (w : Bool) → tenth_test o w ≡ none → o ≡ none
entry_none none w p = refl
entry_none (some r) w p = absurd (none_some (sym p))

module _ (sheet T : List ℕ) (e : T ≡ sheet_table table_words sheet) where
  by_bare : (ks : List Record) → bare_in sheet ≡ some ks → entry (job_of_records ks) ≡ none → Begins sheet T
  unfolding sheet_table
  by_bare ks i p = record {
    records = ks;
    are = i;
    left =
        inl (subst (λ (W : List ℕ). Going W (job_of_records ks) at_start ks) (sym (e ∙ is_table))
        (going ks sound p (fair sheet ks i p)));
  }
    where
      sound : Sound ks
      sound = subst (On Sound) i (bare_in_sound sheet)

      is_table : sheet_table table_words sheet ≡ (fill (blank table_words) ks).out
      is_table =
          ap (λ (o : Option (List Record)). records_table table_words o) i
          ∙ ap (λ (t : Bool). cond t (fill (blank table_words) ks).out (replicate table_words 0))
          (fits ks sound p)

  -- THE LAW: it has its bare records left at the start
  pub begins : verdict sheet ≡ none → Begins sheet T
  unfolding verdict bare_in
  begins p = go (is_second sheet) (records_in sheet) refl p
    where
      go : (t : Bool) (m : Option (List Record)) → bare_in sheet ≡ bare_of t m → verdict_of t m ≡ none
          → Begins sheet T
      go t none i q = absurd (none_some (sym q))
      go true (some rs) i q =
          by_bare (shrunk rs) i (ap entry (bare_job rs) ∙ entry_none (entry (job_of_records rs)) (as_written rs) q)
      go false (some rs) i q = by_bare rs i (entry_none (entry (job_of_records rs)) true q)

-- ---- the sheet in the other form

-- its text is that of the bare records
text_bare : (asked : Bool) (m : Option (List Record)) (ks : List Record) → bare_of (not asked) m ≡ some ks
    → moved_sheet asked m ≡ text_left asked (job_of_records ks) at_start ks
unfolding sheet_text moved_records text_left front_text
text_bare true none ks q = absurd (none_some q)
text_bare false none ks q = absurd (none_some q)
text_bare true (some rs) ks q =
    let s : rs ≡ ks = cc in ap (λ (l : List Record). text_left true (job_of_records l) at_start l) s
text_bare false (some rs) ks q =
    let s : shrunk rs ≡ ks = cc in ap (λ (l : List Record). text_left false (job_of_records l) at_start l) s

-- THE LAW: a sheet that passes, in the form that is not asked for, is moved to the text of what is left at the start
pub moves : (asked : Bool) (sheet T : List ℕ) → T ≡ sheet_table table_words sheet → verdict sheet ≡ none
    → already asked (is_second sheet) ≡ false → Moves asked sheet T
unfolding bare_in
moves asked sheet T e p a =
    let b : Begins sheet T = begins sheet T e p in
    let s : is_second sheet ≡ not asked = other_form asked (is_second sheet) a in
    record {
      job = job_of_records b.records;
      records = b.records;
      left = b.left;
      is =
          moved_other asked sheet a
          ∙ ap (λ (o : Option SheetRefusal). given_unless o (moved_sheet asked (records_in sheet))) p
          ∙ ap given' (text_bare asked (records_in sheet) b.records
          (ap (λ (t : Bool). bare_of t (records_in sheet)) (sym s) ∙ b.are));
    }
