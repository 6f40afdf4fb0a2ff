-- From the verdict on a sheet that was read to what its conversion writes. Assumes nothing.
use mathlib.Core.Path.{◌≡◌, refl, sym, ap, subst, ◌∙◌}
use mathlib.Core.Bool.{Bool, false}
use mathlib.Core.List.{List, ◌++◌, append-nil}
use Prim.Native.Nat.{ℕ, ◌+◌, ◌≤◌, ◌<◌}
use native.Mathlib.Omega.{arith}
use lib.Dec.{eqb}
use lib.ListN.{length, get_or, take, length-append}
use lib.Seq.{length-take-le}
use Rattle.std.specs.Prelude.{Some, None, Result, Ok, Err, IsOk}
use Rattle.std.specs.Result.{result_err}
use Rattle.words.specs.Words.{words_of}
use Rattle.definition.specs.declared.SheetRefusal.{SheetRefusal}
use Rattle.definition.specs.SheetForms.{is_second, sheet_number_of}
use Rattle.definition.specs.Conversion.{move_to, moved_text, converted}
use Rattle.lines.specs.Wrote.{Wrote}
use Rattle.lines.specs.declared.Page.{Page}
use Rattle.register_sheet.specs.Typed.{refused_line}
use Rattle.sheet_rules.specs.Places.{table_words}
use Rattle.sheet.specs.declared.either.Reading.{Reading}
use Rattle.sheet.specs.Front.{Formed, formed, run_form, open_form, second_of}
use Rattle.sheet.specs.Fronts.{front_at}
use Rattle.sheet_laws.specs.Read.{forms_front}
use Rattle.sheet_verdict.specs.Judged.{LeadsTo}
use Rattle.job_pages.specs.Cursors.{Cursor, at_start}
use Rattle.job_pages.specs.Left.{Left, text_left}
use Rattle.job_pages.specs.Pages.{Filled, Paged}
use Rattle.job_pages.specs.Over.{over_text}
use Rattle.job_pages.specs.Starts.{Moves}
use Rattle.convert.specs.Settled.{Settled, moved_verdict, refused_line_text}
use Rattle.convert.specs.Moved.{Whole}

-- ---- the form

pub form_is : (cur : Reading) (W Y sheet : List ℕ) → LeadsTo sheet cur W Y
    → second_of (front_at cur.front) ≡ is_second sheet
form_is cur W Y sheet l =
    ap (λ (f : Formed). second_of f.at.front) l.is ∙ forms_front table_words 1536 sheet l.bytes

-- ---- a refusal

-- what its line is
pub refused_is : (asked : Bool) (sheet T : List ℕ) (f : SheetRefusal) (o : List ℕ) (k r : ℕ) (B : List ℕ)
    → Settled asked sheet T (Err f) → k ≡ sheet_number_of f → Wrote 256 0 o r B (refused_line k)
    → take r B ≡ converted asked sheet
refused_is asked sheet T f o k r B h e w =
    w.is ∙ ap refused_line e ∙ refused_line_text f (move_to asked sheet) h.verdict

pub answered_refused : (asked : Bool) (sheet T : List ℕ) (f : SheetRefusal) (o : List ℕ) (k r : ℕ) (B : List ℕ)
    → Settled asked sheet T (Err f) → k ≡ sheet_number_of f → Wrote 256 0 o r B (refused_line k)
    → 256 ≤ length B → Whole asked sheet (record { n = r; refused = Some f }) B
answered_refused asked sheet T f o k r B h e w b = record {
  refused = ap (λ (v : Result Unit SheetRefusal). result_err v) h.verdict;
  within = omega (arith, w.most, b);
  is = refused_is asked sheet T f o k r B h e w;
}

-- ---- a sheet that is to be written

-- in one page
module _ (asked : Bool) (sheet x : List ℕ) (c : Cursor) (p : Page Cursor) (B : List ℕ) (e : c ≡ at_start)
    (s : Settled asked sheet (words_of x) (Ok tt)) (f : Filled asked x c p B) where
  start : Moves asked sheet (words_of x)
  start = s.moves refl

  page : Paged asked (words_of x) start.job c start.records p B
  page = f.paged start.job start.records
      (subst (λ (k : Cursor). Left (words_of x) start.job k start.records) (sym e) start.left)

  -- the page's bytes and what is left behind it
  parted : converted asked sheet ≡ take p.n B ++ text_left asked start.job p.cur page.records
  parted =
      ap moved_text start.is
      ∙ ap (λ (k : Cursor). text_left asked start.job k start.records) (sym e)
      ∙ page.text

  pub answered_moved : p.cur.key ≡ 12 → Whole asked sheet (record { n = p.n; refused = None }) B
  answered_moved w = record {
    refused = ap (λ (u : Result Unit SheetRefusal). result_err u) s.verdict;
    within = f.within;
    is =
        sym (parted
        ∙ ap (λ (l : List ℕ). take p.n B ++ l)
        (over_text asked (words_of x) start.job p.cur page.records w page.left)
        ∙ append-nil (take p.n B));
  }

  pub no_room : eqb p.cur.key 12 ≡ false
      → IsOk (moved_verdict (move_to asked sheet)) × (length B < length (converted asked sheet) + 256)
  no_room w = (
    subst (λ (v : Result Unit SheetRefusal). IsOk v) s.verdict refl,
    omega (arith, f.full w, f.within, simp length-append at (ap length parted), length-take-le p.n B f.within),
  )
