-- What is known while an answer is compared with a moved sheet page by page. Assumes nothing.
use mathlib.Core.Path.{◌≡◌, refl, sym, ap, subst, ◌∙◌}
use mathlib.Core.Bool.{Bool, true, false, ◌&&◌}
use mathlib.Core.List.{List, [], ◌∷◌, ◌++◌}
use Prim.Native.Nat.{ℕ}
use native.Mathlib.Omega.{arith}
use lib.Dec.{eqb}
use lib.Pointwise.{pointwise}
use lib.ListN.{length, take, drop}
use borrow.Author.Tests.{ne_eqb}
use Rattle.words.specs.Words.{words_of}
use Rattle.definition.specs.Types.{Job}
use Rattle.definition.specs.JobSheet.{Record}
use Rattle.definition.specs.Text.{same}
use Rattle.lines.specs.declared.Page.{Page}
use Rattle.lines.specs.Comparing.{same_append, same_none}
use Rattle.job_pages.specs.Cursors.{Cursor, at_start}
use Rattle.job_pages.specs.Left.{Left, text_left}
use Rattle.job_pages.specs.Pages.{Shows, Filled, Paged}
use Rattle.job_pages.specs.Over.{over_text}
use Rattle.convert.specs.Moved.{TellsSheet}

-- ---- page by page

-- the answer is the text of these records if the rest of it is the text of those that are left at c
pub record Kept (asked : Bool) (T answer : List ℕ) (c : Cursor) (rest : List ℕ) (job : Job) (rs : List Record) :
    Type 0 where
  pub records : List Record
  pub left : Left T job c records
  pub alike : same answer (text_left asked job at_start rs) ≡ same rest (text_left asked job c records)

pub record Agreed (asked : Bool) (x answer : List ℕ) (c : Cursor) (rest : List ℕ) : Type 0 where
  pub shows : Shows x c
  pub each : (job : Job) (rs : List Record) → Left (words_of x) job at_start rs
      → Kept asked (words_of x) answer c rest job rs

pub agreed_start : (asked : Bool) (x answer : List ℕ) (c : Cursor) → Shows x at_start → c ≡ at_start
    → Agreed asked x answer c answer
agreed_start asked x answer c y e =
    subst (λ (k : Cursor). Agreed asked x answer k answer) (sym e) (record {
      shows = y;
      each = λ job rs l. record { records = rs; left = l; alike = refl };
    })

-- a page, by its comparison with the rest
module _ (asked : Bool) (x answer : List ℕ) (c : Cursor) (rest : List ℕ) (p : Page Cursor) (B : List ℕ)
    (h : Agreed asked x answer c rest) (f : Filled asked x c p B) where
  page_of : (job : Job) (rs : List Record) (l : Left (words_of x) job at_start rs)
      → Paged asked (words_of x) job c (h.each job rs l).records p B
  page_of job rs l = f.paged job (h.each job rs l).records (h.each job rs l).left

  page_same : (b : Bool) → pointwise eqb (take (length (take p.n B)) rest) (take p.n B) ≡ b → (job : Job)
      (rs : List Record) (l : Left (words_of x) job at_start rs) → same answer (text_left asked job at_start rs)
      ≡ b && same (drop (length (take p.n B)) rest) (text_left asked job p.cur (page_of job rs l).records)
  page_same b e job rs l =
      let more : List ℕ = text_left asked job p.cur (page_of job rs l).records in
      (h.each job rs l).alike
      ∙ ap (λ (t : List ℕ). same rest t) (page_of job rs l).text
      ∙ same_append (take p.n B) rest more
      ∙ ap (λ (s : Bool). s && same (drop (length (take p.n B)) rest) more) e

  pub agreed_next : (behind : List ℕ) → pointwise eqb (take (length (take p.n B)) rest) (take p.n B) ≡ true
      → behind ≡ drop (length (take p.n B)) rest → Agreed asked x answer p.cur behind
  agreed_next behind e d = record {
    shows = f.shows;
    each = λ job rs l. record {
      records = (page_of job rs l).records;
      left = (page_of job rs l).left;
      alike =
          page_same true e job rs l
          ∙ ap (λ (t : List ℕ). same t (text_left asked job p.cur (page_of job rs l).records)) (sym d);
    };
  }

  -- a page that is not there
  pub agreed_differs : pointwise eqb (take (length (take p.n B)) rest) (take p.n B) ≡ false
      → TellsSheet asked (words_of x) answer false
  agreed_differs e = λ job rs l. sym (page_same false e job rs l)

-- all pages are there, and the answer ends with them or goes on
pub agreed_all : (asked : Bool) (x answer : List ℕ) (c : Cursor) (rest : List ℕ) → Agreed asked x answer c rest
    → c.key ≡ 12 → TellsSheet asked (words_of x) answer (eqb (length rest) 0)
agreed_all asked x answer c rest h e = λ job rs l.
    let k : Kept asked (words_of x) answer c rest job rs = h.each job rs l in
    same_none rest
    ∙ ap (λ (t : List ℕ). same rest t) (sym (over_text asked (words_of x) job c k.records e k.left))
    ∙ sym k.alike
