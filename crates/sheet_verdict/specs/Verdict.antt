-- The verdict on a sheet of either form that was read, and its answer, by the words of the two tables. Assumes nothing.
use Rattle.std.specs.Prelude.{◌≡◌, Bool, true, false, cond, ℕ, drop, replicate}
use Rattle.std.proofs.Math.Path.{refl, sym, ap, subst}
use Rattle.std.proofs.Common.{◌∙◌}
use mathlib.Core.List.{List}
use Rattle.std.proofs.Math.Option.{Option, none, some}
use native.Mathlib.Omega.{arith}
use Rattle.std.proofs.Math.ListN.{get_or, take, length-map}
use Rattle.words.specs.Words.{word_count, words_of}
use Rattle.definition.specs.declared.Refusal.{Refusal}
use Rattle.definition.specs.Types.{Job, Room}
use Rattle.definition.specs.Build.{build}
use Rattle.definition.specs.Entry.{entry}
use Rattle.definition.specs.Text.{◌>>=◌}
use Rattle.definition.specs.JobSheet.{block, seg, Record, at, only, job_of_records}
use Rattle.definition.specs.declared.SheetRefusal.{SheetRefusal}
use Rattle.definition.specs.SheetForms.{is_second, records_in, job_in, written_firsts, written_sets, as_implied, as_written}
use Rattle.definition.specs.SheetForms.{tenth_test, verdict_of, verdict, lift, built_unless, answer_to_sheet}
use Rattle.definition.proofs.Forms.{answer_refused, answer_passed}
use Rattle.definition.specs.Conversion.{shrunk}
use Rattle.sheet_rules.specs.Places.{limits, limit_of, count_at, table_words}
use Rattle.sheet_laws.specs.Words.{none_some}
use Rattle.sheet_laws.specs.Table.{fill, blank}
use Rattle.sheet_job.specs.Fixed.{table_at, fixed_layout}
use Rattle.sheet_job.specs.Jobs.{Alike}
use Rattle.sheet_job.specs.Answers.{alike_entry, accepted_same}
use Rattle.sheet_laws.specs.Jobs.{only_long}
use Rattle.sheet_laws.specs.Kept.{kept_words, first_words, set_words}
use Rattle.sheet_laws.specs.Read.{bare_of, bare_in}
use Rattle.sheet_verdict.specs.Read.{records_fit, records_number, records_table, sheet_number, sheet_table}
use Rattle.sheet_verdict.specs.Read.{records_written, written_table, JobRead, ReadAs}
use Rattle.sheet_verdict.specs.Laws.{fill_fits, bare_fits, counted, few}
use Rattle.sheet_verdict.specs.Answers.{table_job}

-- ---- the written fields by the words W of the table and U of its own

abbrev pub firsts_in : List ℕ → List ℕ → List ℕ
firsts_in W U = take (fixed_layout W).blocks.n U

abbrev pub sets_in : List ℕ → List ℕ → List ℕ
sets_in W U = take (fixed_layout W).segments.n (drop 512 U)

-- whether they are the implied ones; a sheet of the first form has none
abbrev pub tenth_ok : Bool → List ℕ → List ℕ → Bool
tenth_ok false W U = true
tenth_ok true W U = as_implied (firsts_in W U) (sets_in W U) (table_job W)

-- they are those of records of the second form
module _ (n : ℕ) (e : n ≡ table_words) (rs : List Record) (W U : List ℕ) (v : (fill (blank n) (shrunk rs)).over ≡ false)
    (f : W ≡ (fill (blank n) (shrunk rs)).out) (k : U ≡ kept_words (written_firsts rs) (written_sets rs)) where
  firsts_are : firsts_in W U ≡ written_firsts rs
  unfolding fixed_layout table_at count_at written_firsts
  firsts_are =
      ap (λ (l : List ℕ). take (get_or W 3 0) l) k
      ∙ first_words (written_firsts rs) (written_sets rs) (get_or W 3 0)
      (length-map (only block rs) (λ ns. at ns 2) ∙ sym (only_long block rs)
      ∙ sym (counted n e (shrunk rs) v block (omega arith) (omega arith)) ∙ ap (λ (l : List ℕ). get_or l 3 0) (sym f))

  sets_are : sets_in W U ≡ written_sets rs
  unfolding fixed_layout table_at count_at written_firsts written_sets limit_of limits
  sets_are =
      ap (λ (l : List ℕ). take (get_or W 8 0) (drop 512 l)) k
      ∙ set_words (written_firsts rs) (written_sets rs) (get_or W 8 0)
      (omega (
        arith,
        few n e (shrunk rs) v block (omega arith) (omega arith),
        only_long block rs,
        length-map (only block rs) (λ ns. at ns 2),
      ))
      (length-map (only seg rs) (λ ns. at ns 4) ∙ sym (only_long seg rs)
      ∙ sym (counted n e (shrunk rs) v seg (omega arith) (omega arith)) ∙ ap (λ (l : List ℕ). get_or l 8 0) (sym f))

-- ---- the laws of number 0

within : (u : Bool) → ◌≡◌ {A = ℕ} (cond u 0 2) 0 → u ≡ true
within true e = refl
within false e = absurd (omega (arith, e))

-- 10 is looked at where the tests before it pass
tenth_only : (o : Option Refusal) (a b : Bool) → (o ≡ none → a ≡ b) → tenth_test o a ≡ tenth_test o b
tenth_only (some q) a b h = refl
tenth_only none a b h = ap (λ (u : Bool). tenth_test none u) (h refl)

tenth_passes : (o : Option Refusal) (w : Bool) → tenth_test o w ≡ none → o ≡ none
tenth_passes none w e = refl
tenth_passes (some q) w e = absurd (none_some (sym e))

module _ (sheet : List ℕ) (r : ℕ) (x y : List ℕ) (c : ReadAs sheet r x y) (z : r ≡ 0) where
  abbrev W : List ℕ
  W = words_of x

  abbrev U : List ℕ
  U = words_of y

  -- the contract by the form and the records
  module _ (t : Bool) (m : Option (List Record)) (i : is_second sheet ≡ t) (j : records_in sheet ≡ m) where
    number_by : records_number (bare_of t m) ≡ 0
    unfolding sheet_number bare_in
    number_by =
        sym (sym z ∙ c.number ∙ ap (λ (u : Bool). records_number (bare_of u (records_in sheet))) i
        ∙ ap (λ (k : Option (List Record)). records_number (bare_of t k)) j)

    table_by : W ≡ records_table (word_count x) (bare_of t m)
    unfolding sheet_table bare_in
    table_by =
        c.table ∙ ap (λ (u : Bool). records_table (word_count x) (bare_of u (records_in sheet))) i
        ∙ ap (λ (k : Option (List Record)). records_table (word_count x) (bare_of t k)) j

    written_by : U ≡ records_written t m
    unfolding written_table
    written_by =
        c.written ∙ ap (λ (u : Bool). records_written u (records_in sheet)) i
        ∙ ap (λ (k : Option (List Record)). records_written t k) j

  records_job : (rs : List Record) → records_in sheet ≡ some rs → Alike (table_job W) (job_of_records rs)
  unfolding job_in
  records_job rs j =
      subst (λ (k : Job). Alike (table_job W) k)
      (ap the (sym (c.job z).is ∙ ap (λ (m : Option (List Record)). m >>= λ ks. some (job_of_records ks)) j))
      (c.job z).alike
    where
      the : Option Job → Job
      the none = (c.job z).job
      the (some k) = k

  -- test 10 of a sheet of the second form
  module _ (rs : List Record) (i : is_second sheet ≡ true) (j : records_in sheet ≡ some rs) where
    all_fit : records_fit (shrunk rs) ≡ true
    all_fit = within (records_fit (shrunk rs)) (number_by true (some rs) i j)

    none_over : (fill (blank (word_count x)) (shrunk rs)).over ≡ false
    none_over = fill_fits (word_count x) c.long (shrunk rs) true all_fit

    tabled : W ≡ (fill (blank (word_count x)) (shrunk rs)).out
    tabled =
        table_by true (some rs) i j
        ∙ ap (λ (u : Bool). cond u (fill (blank (word_count x)) (shrunk rs)).out (replicate (word_count x) 0)) all_fit

    kept : U ≡ kept_words (written_firsts rs) (written_sets rs)
    kept =
        written_by true (some rs) i j
        ∙ ap (λ (u : Bool). cond u (kept_words (written_firsts rs) (written_sets rs)) (replicate 1536 0))
        (sym (bare_fits rs) ∙ all_fit)

    tenth : entry (job_of_records rs) ≡ none → as_written rs ≡ tenth_ok true W U
    unfolding as_written
    tenth h =
        ap (λ (k : Job). as_implied (written_firsts rs) (written_sets rs) k)
        (sym (accepted_same (table_job W) (job_of_records rs) (records_job rs j) h))
        ∙ ap (λ (l : List ℕ). as_implied (written_firsts rs) l (table_job W))
        (sym (sets_are (word_count x) c.long rs W U none_over tabled kept))
        ∙ ap (λ (l : List ℕ). as_implied l (sets_in W U) (table_job W))
        (sym (firsts_are (word_count x) c.long rs W U none_over tabled kept))

  -- THE LAW of the verdict: tests 2 to 7 on the table's job, then 10 on the written words
  pub verdict_read : verdict sheet ≡ tenth_test (entry (table_job W)) (tenth_ok (is_second sheet) W U)
  unfolding verdict
  verdict_read = go (is_second sheet) refl (records_in sheet) refl
    where
      entered : (rs : List Record) → records_in sheet ≡ some rs → entry (job_of_records rs) ≡ entry (table_job W)
      entered rs j = sym (alike_entry (table_job W) (job_of_records rs) (records_job rs j))

      go : (t : Bool) → is_second sheet ≡ t → (m : Option (List Record)) → records_in sheet ≡ m
          → verdict_of t m ≡ tenth_test (entry (table_job W)) (tenth_ok t W U)
      go true i none j = absurd (omega (arith, number_by true none i j))
      go false i none j = absurd (omega (arith, number_by false none i j))
      go false i (some rs) j = ap (λ (o : Option Refusal). tenth_test o true) (entered rs j)
      go true i (some rs) j =
          tenth_only (entry (job_of_records rs)) (as_written rs) (tenth_ok true W U) (tenth rs i j)
          ∙ ap (λ (o : Option Refusal). tenth_test o (tenth_ok true W U)) (entered rs j)

  -- THE LAW of the answer: that refusal, or the build of the table's job
  pub answer_either : (room : Room) → answer_to_sheet sheet room ≡ built_unless (verdict sheet) (table_job W) room
  answer_either room = go (verdict sheet) refl
    where
      k : JobRead sheet W
      k = c.job z

      passed : verdict sheet ≡ none → entry k.job ≡ none
      passed e =
          sym (alike_entry (table_job W) k.job k.alike)
          ∙ tenth_passes (entry (table_job W)) (tenth_ok (is_second sheet) W U) (sym verdict_read ∙ e)

      go : (o : Option SheetRefusal) → verdict sheet ≡ o → answer_to_sheet sheet room ≡ built_unless o (table_job W) room
      go (some q) e = answer_refused sheet room q e
      go none e =
          answer_passed sheet room k.job e k.is
          ∙ ap (λ (job : Job). lift (build job room)) (sym (accepted_same (table_job W) k.job k.alike (passed e)))
