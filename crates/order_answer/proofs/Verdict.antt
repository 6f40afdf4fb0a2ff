-- The verdict on a sheet that was read, and the answer by two verdicts. Assumes nothing.
use Rattle.std.specs.Prelude.{◌≡◌, List, ℕ, Result, Ok, Err, is_ok}
use Rattle.std.proofs.Common.{sym, ap, ◌∙◌}
use Rattle.std.proofs.lemmas.Bool.{false≢true}
use Rattle.words.specs.Words.{word_count, words_of}
use Rattle.definition.specs.declared.Order.{Order}
use Rattle.definition.specs.declared.SheetRefusal.{SheetRefusal}
use Rattle.definition.specs.JobSheet.{job_of_records}
use Rattle.definition.specs.SheetForms.{given'}
use Rattle.entry.specs.declared.Entered.{Entered}
use Rattle.entry.specs.Number.{refusal_in}
use Rattle.sheet_rules.specs.Places.{table_words}
use Rattle.sheet.specs.declared.either.Reading.{Reading}
use Rattle.sheet_verdict.specs.Judged.{Judged}
use Rattle.sheet_verdict.specs.Leads.{table_read}
use Rattle.text_laws.specs.Shelved.{order_refused_first, order_refused_second, order_bare}
use Rattle.job_pages.specs.Cursors.{at_start}
use Rattle.job_pages.specs.Starts.{Begins, begins}
use Rattle.job_order.specs.Orders.{Orders}
use Rattle.order_answer.specs.Shelved.{Shelves}
use Rattle.order_answer.specs.Answers.{Answers}

-- ---- the verdict

module _ (cur : Reading) (T U K : List ℕ) (l : word_count T ≡ table_words) (k : word_count U ≡ 1536) where
  pub shelved_passed : (e : Entered) → Judged cur T (words_of U) K (Ok e)
      → Shelves cur (words_of T) (words_of U) (Ok tt)
  shelved_passed e j = λ sheet s. record {
    verdict = j.refused sheet s;
    begins = λ z.
        begins sheet (words_of T) (table_read sheet cur T U l k s (sym (j.refused sheet s))) (sym (j.refused sheet s));
  }

  pub shelved_refused : (r : SheetRefusal) → Judged cur T (words_of U) K (Err r)
      → Shelves cur (words_of T) (words_of U) (Err r)
  shelved_refused r j = λ sheet s. record { verdict = j.refused sheet s; begins = λ z. absurd (false≢true z) }

-- ---- the answer

module _ (v w : Result Unit SheetRefusal) (T U : List ℕ) where
  pub refused_first : (r : SheetRefusal) → v ≡ Err r → Answers v T w U (Err r)
  refused_first r e = λ a b s t. sym (order_refused_first a b r (sym s.verdict ∙ ap refusal_in e))

  pub refused_second : (r : SheetRefusal) → v ≡ Ok tt → w ≡ Err r → Answers v T w U (Err r)
  refused_second r e f = λ a b s t.
      sym (order_refused_second a b r (sym s.verdict ∙ ap refusal_in e) (sym t.verdict ∙ ap refusal_in f))

  pub passed_both : (o : Order) → v ≡ Ok tt → w ≡ Ok tt → Orders T U at_start o → Answers v T w U (Ok o)
  passed_both o e f h = λ a b s t.
      let x : Begins a T = s.begins (ap is_ok e) in
      let y : Begins b U = t.begins (ap is_ok f) in
      ap given' (h (job_of_records x.records) (job_of_records y.records) x.records y.records x.left y.left)
      ∙ sym (order_bare a b x.records y.records (sym s.verdict ∙ ap refusal_in e) (sym t.verdict ∙ ap refusal_in f)
      x.are y.are)
