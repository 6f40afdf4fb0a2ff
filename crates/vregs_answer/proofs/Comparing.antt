-- What is known while two texts are compared. Assumes nothing.
use mathlib.Core.Path.{◌≡◌, refl, sym, ap, subst, ◌∙◌}
use mathlib.Core.Bool.{Bool, true, false, ◌&&◌}
use mathlib.Core.List.{List, [], ◌∷◌, ◌++◌}
use Prim.Native.Nat.{ℕ}
use native.Mathlib.Omega.{arith}
use lib.Dec.{eqb}
use lib.Pointwise.{pointwise}
use lib.ListN.{length, take, drop}
use borrow.Author.Tests.{ne_eqb}
use Rattle.definition.specs.Build.{Result}
use Rattle.definition.specs.Limits.{vregs_room}
use Rattle.definition.specs.Text.{same}
use Rattle.definition.specs.SheetForms.{SheetOut, answer_to_sheet, answer_text, vregs_of}
use Rattle.virt_regs.specs.declared.OutLayout.{OutLayout}
use Rattle.sheet.specs.declared.either.Reading.{Reading}
use Rattle.sheet_verdict.specs.Judged.{LeadsTo}
use Rattle.sheet_output.specs.declared.Cursor.{Cursor}
use Rattle.lines.specs.declared.Page.{Page}
use Rattle.lines.specs.Comparing.{same_append, same_none}
use Rattle.sheet_output.specs.Left.{at_start}
use Rattle.build_answer.specs.declared.BuildEnd.{BuildEnd}
use Rattle.sheet_output.specs.AnswerPages.{left_of, Printing, Prints, Turned}
use Rattle.sheet_output.specs.Laws.{left_start, printing_start, prints_next, left_end}
use Rattle.vregs_answer.specs.Sheet.{vregs_tables, Answers}
use Rattle.vregs_answer.specs.Same.{TellsSheet}

-- ---- page by page: the answer is the sheet if the rest of it is what is left

pub record Agreed (ol : OutLayout) (r : BuildEnd) (x answer : List ℕ) (c : Cursor) (rest : List ℕ) : Type 0 where
  pub tables : ol ≡ vregs_tables
  pub prints : Prints ol r x c
  pub each : (o : SheetOut Result) → Printing ol o r x at_start → Printing ol o r x c × (same answer (answer_text o) ≡ same rest (left_of o c))

pub agreed_start : (ol : OutLayout) (r : BuildEnd) (x answer : List ℕ) (c : Cursor) → Prints vregs_tables r x at_start → ol ≡ vregs_tables → c ≡ at_start → Agreed ol r x answer c answer
agreed_start ol r x answer c p e d =
    record {
      tables = e;
      prints = subst (λ (l : OutLayout). Prints l r x c) (sym e) (subst (λ (k : Cursor). Prints vregs_tables r x k) (sym d) p);
      each = λ o g. (
        subst (λ (k : Cursor). Printing ol o r x k) (sym d) g,
        ap (λ (t : List ℕ). same answer t) (sym (ap (λ (k : Cursor). left_of o k) d ∙ left_start o)),
      );
    }

-- a page, by its comparison with the rest
module _ (ol : OutLayout) (r : BuildEnd) (x answer : List ℕ) (c : Cursor) (rest : List ℕ) (p : Page Cursor) (B : List ℕ)
    (h : Agreed ol r x answer c rest) (t : Turned ol r x c p B) where
  page_same : (b : Bool) → pointwise eqb (take (length (take p.n B)) rest) (take p.n B) ≡ b → (o : SheetOut Result) → Printing ol o r x at_start
      → same answer (answer_text o) ≡ b && same (drop (length (take p.n B)) rest) (left_of o p.cur)
  page_same b e o g =
      let q = h.each o g in
      q.1 ∙ ap (λ (l : List ℕ). same rest l) (t.paged o q.0).text ∙ same_append (take p.n B) rest (left_of o p.cur)
      ∙ ap (λ (s : Bool). s && same (drop (length (take p.n B)) rest) (left_of o p.cur)) e

  pub agreed_next : (behind : List ℕ) → pointwise eqb (take (length (take p.n B)) rest) (take p.n B) ≡ true → behind ≡ drop (length (take p.n B)) rest
      → Agreed ol r x answer p.cur behind
  agreed_next behind e d = record {
    tables = h.tables;
    prints = prints_next ol r x c p B h.prints t;
    each = λ o g. (
      (t.paged o (h.each o g).0).printing,
      page_same true e o g ∙ ap (λ (l : List ℕ). same l (left_of o p.cur)) (sym d),
    );
  }

  -- a page that is not there
  pub agreed_differs : pointwise eqb (take (length (take p.n B)) rest) (take p.n B) ≡ false → TellsSheet r x answer false
  agreed_differs e o g = sym (page_same false e o (subst (λ (l : OutLayout). Printing l o r x at_start) (sym h.tables) g))

-- all pages are there, and the answer ends with them or goes on
pub agreed_all : (ol : OutLayout) (r : BuildEnd) (x answer : List ℕ) (c : Cursor) (rest : List ℕ) → Agreed ol r x answer c rest → c.ended ≡ true → TellsSheet r x answer (eqb (length rest) 0)
agreed_all ol r x answer c rest h d o g =
    same_none rest
    ∙ ap (λ (l : List ℕ). same rest l) (sym (left_end o c d))
    ∙ sym (h.each o (subst (λ (l : OutLayout). Printing l o r x at_start) (sym h.tables) g)).1

-- ---- the sheet that was fed

module _ (n : ℕ) (cur : Reading) (W Y : List ℕ) (r : BuildEnd) (x sheet : List ℕ) (l : LeadsTo sheet cur W Y)
    (a : Answers n cur W Y r x) where
  printing_fed : Printing vregs_tables (answer_to_sheet sheet vregs_room) r x at_start
  printing_fed = printing_start n vregs_tables (answer_to_sheet sheet vregs_room) r x (a sheet l)

  pub prints_fed : Prints vregs_tables r x at_start
  prints_fed = record {
    few_regs = omega arith;
    few_groups = omega arith;
    answer = answer_to_sheet sheet vregs_room;
    printing = printing_fed;
  }

  pub is_vregs : (answer : List ℕ) (b : Bool) → TellsSheet r x answer b → b ≡ same answer (vregs_of sheet)
  unfolding vregs_of
  is_vregs answer b i = i (answer_to_sheet sheet vregs_room) printing_fed
