-- What a line's functions ask, off the row that the cursor stands at. Assumes nothing.
use mathlib.Core.Path.{◌≡◌, refl, sym, ap, subst, ◌∙◌}
use mathlib.Core.Bool.{true, false}
use mathlib.Core.List.{List}
use Prim.Native.Nat.{ℕ, ◌+◌, ◌≤◌}
use native.Mathlib.Omega.{arith}
use lib.Dec.{eqb}
use Rattle.std.specs.Prelude.{Some}
use Rattle.words.specs.Words.{word_count, words_of}
use Rattle.sheet_rules.specs.declared.forms.Kind.{Kind}
use Rattle.sheet_rules.specs.Kinds.{number_of}
use Rattle.sheet_rules.specs.Places.{row_at}
use Rattle.job_pages.specs.Cursors.{Cursor, some_key, shown_row, rows_in, has_row, field_count, first_field}
use Rattle.job_pages.specs.Pages.{Shows}
use Rattle.job_pages.specs.Lines.{Ready, ready, going_on, passing, few_segs}

module _ {x : List ℕ} {c : Cursor} (s : Shows x c) (k : Kind) (e : c.key ≡ number_of k) where
  -- the end was not written
  pub more : eqb c.key 12 ≡ false
  more = ap (λ (j : ℕ). eqb j 12) e ∙ some_key (Some k) refl

  pub segs_few : rows_in (words_of x) 9 ≤ 1024
  segs_few = few_segs (going_on x c more s.left)

  pub key_low : has_row (words_of x) c ≡ false → c.key ≤ 10
  key_low h = (passing x c more h).1

  module _ (h : has_row (words_of x) c ≡ true) where
    pub shown_few : shown_row c ≤ 4096
    shown_few = (ready x c more s.long s h).shown

    -- w is the first word of row i, at which the cursor stands
    module _ {i w : ℕ} (f : i ≡ shown_row c) (g : w ≡ row_at (number_of k) i) where
      pub row_word : w ≡ row_at c.key (shown_row c)
      row_word = g ∙ ap (λ (j : ℕ). row_at (number_of k) j) f ∙ ap (λ (j : ℕ). row_at j (shown_row c)) (sym e)

      pub ready_key : Ready (words_of x) c c.key w
      ready_key = subst (λ (v : ℕ). Ready (words_of x) c c.key v) (sym row_word) (ready x c more s.long s h)

      pub ready_at : Ready (words_of x) c (number_of k) w
      ready_at = subst (λ (j : ℕ). Ready (words_of x) c j w) e ready_key

    -- n fields from word a on
    pub fields_in : {j w a n : ℕ} → Ready (words_of x) c j w → n ≡ field_count (words_of x) j w
        → a ≡ first_field j w → a + n ≤ word_count x
    fields_in r en ea = omega (arith, r.fields, en, ea, s.long)

    pub fields_few : {j w n : ℕ} → Ready (words_of x) c j w → n ≡ field_count (words_of x) j w → n ≤ 8
    fields_few r en = omega (arith, r.few, en)
