-- What is asked of the row that a cursor stands at. Assumes nothing.
use Rattle.std.specs.Prelude.{◌≡◌, true, List, ℕ}
use Rattle.std.proofs.Common.{sym, ap, subst, ◌∙◌}
use Rattle.words.specs.Words.{words_of}
use Rattle.sheet_rules.specs.declared.forms.Kind.{Kind}
use Rattle.sheet_rules.specs.Kinds.{number_of}
use Rattle.job_pages.specs.Cursors.{Cursor, has_row, field_count, first_field}
use Rattle.job_pages.specs.Pages.{Shows}
use Rattle.job_pages.specs.Lines.{Ready, ready}
use Rattle.job_pages.proofs.Asked.{more}
use Rattle.job_order.specs.Rows.{words_from, row_start, fields_at}

module _ {x : List ℕ} {c : Cursor} (s : Shows x c) (k : Kind) (e : c.key ≡ number_of k) where
  module _ (h : has_row (words_of x) c ≡ true) {w : ℕ} (f : w ≡ row_start c) where
    -- by the cursor's key
    pub ready_own : Ready (words_of x) c c.key w
    ready_own = subst (λ (v : ℕ). Ready (words_of x) c c.key v) (sym f) (ready x c (more s k e) s.long s h)

    -- by the kind
    pub ready_kind : Ready (words_of x) c (number_of k) w
    ready_kind = subst (λ (j : ℕ). Ready (words_of x) c j w) e ready_own

-- n words from word a on are the record's fields
pub fields_lem : (T : List ℕ) (c : Cursor) (k : Kind) (w a n : ℕ) → c.key ≡ number_of k → w ≡ row_start c
    → a ≡ first_field (number_of k) w → n ≡ field_count T (number_of k) w → words_from T a n ≡ fields_at T c
fields_lem T c k w a n e f p q =
    ap (λ (v : ℕ). words_from T v n) p
    ∙ ap (λ (v : ℕ). words_from T (first_field (number_of k) w) v) q
    ∙ ap (λ (v : ℕ). words_from T (first_field (number_of k) v) (field_count T (number_of k) v)) f
    ∙ ap (λ (j : ℕ). words_from T (first_field j (row_start c)) (field_count T j (row_start c))) (sym e)
