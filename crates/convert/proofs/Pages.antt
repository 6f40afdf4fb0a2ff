-- Page after page. Assumes nothing.
use mathlib.Core.Path.{◌≡◌, refl, sym, subst, ◌∙◌}
use mathlib.Core.Bool.{Bool, true, false}
use mathlib.Core.List.{List, [], ◌++◌, append-nil}
use Prim.Native.Nat.{ℕ, ◌≤◌}
use lib.ListN.{length, take}
use Rattle.std.specs.Prelude.{Result, Ok, Err, IsOk, IsErr, is_err}
use Rattle.words.specs.Words.{words_of}
use Rattle.definition.specs.Types.{Job}
use Rattle.definition.specs.JobSheet.{Record}
use Rattle.lines.specs.Wrote.{Wrote}
use Rattle.register_sheet.specs.Typed.{refused_line}
use Rattle.job_pages.specs.Cursors.{Cursor, at_start}
use Rattle.lines.specs.declared.Page.{Page}
use Rattle.job_pages.specs.Left.{Left, text_left}
use Rattle.job_pages.specs.Pages.{Shows, Filled, Paged}
use Rattle.job_pages.specs.Over.{over_text}
use Rattle.streams.specs.declared.Stream.{Stream}
use Rattle.streams.specs.declared.Cut.{Cut}
use Rattle.streams.specs.Tape.{at_of, WroteAll}
use Rattle.streams.specs.Paper.{OnPaper, Writing, writing_start, writing_next, writing_failed, writing_end, one_page}
use Rattle.convert.specs.Shown.{Shown, Refused}

-- what is written and what is left are the sheet
pub record Kept (second : Bool) (T tape paper : List ℕ) (s cur : Stream) (c : Cursor) (P : List ℕ) (job : Job)
    (rs : List Record) : Type 0 where
  pub records : List Record
  pub left : Left T job c records
  pub writing : Writing tape paper (text_left second job at_start rs) s cur (text_left second job c records) P

pub record Showing (second : Bool) (x tape paper : List ℕ) (s cur : Stream) (c : Cursor) (P : List ℕ) : Type 0 where
  pub shows : Shows x c
  pub bound : at_of cur ≤ length P
  pub kept : (job : Job) (rs : List Record) → Left (words_of x) job at_start rs
      → Kept second (words_of x) tape paper s cur c P job rs

pub showing_start : (second : Bool) (x tape paper : List ℕ) (s : Stream) (c : Cursor) → Shows x at_start
    → c ≡ at_start → at_of s ≤ length paper → Showing second x tape paper s s c paper
showing_start second x tape paper s c y e h =
    subst (λ (k : Cursor). Showing second x tape paper s s k paper) (sym e) (record {
      shows = y;
      bound = h;
      kept = λ job rs l. record { records = rs; left = l; writing = writing_start tape paper _ s h };
    })

module _ (second : Bool) (x tape paper : List ℕ) (s cur : Stream) (c : Cursor) (P : List ℕ) (p : Page Cursor)
    (B : List ℕ) (w : Result Unit Cut) (t : Stream) (Q : List ℕ) (h : Showing second x tape paper s cur c P)
    (f : Filled second x c p B) (a : WroteAll tape P (take p.n B) cur w t Q) where
  module _ (job : Job) (rs : List Record) (l : Left (words_of x) job at_start rs) where
    page_of : Paged second (words_of x) job c (h.kept job rs l).records p B
    page_of = f.paged job (h.kept job rs l).records (h.kept job rs l).left

    -- the page, and what is left behind it
    paged : Writing tape paper (text_left second job at_start rs) s cur
        (take p.n B ++ text_left second job p.cur page_of.records) P
    paged = subst (λ (l : List ℕ). Writing tape paper (text_left second job at_start rs) s cur l P) page_of.text
        (h.kept job rs l).writing

  pub showing_next : IsOk w → Showing second x tape paper s t p.cur Q
  showing_next e = record {
    shows = f.shows;
    bound = a.bound;
    kept = λ job rs l. record {
      records = (page_of job rs l).records;
      left = (page_of job rs l).left;
      writing = writing_next tape paper _ s cur (take p.n B) _ P w t Q (paged job rs l) a e;
    };
  }

  pub showing_failed : IsErr w → Shown second (words_of x) tape paper s true t Q
  showing_failed e = λ job rs l y. writing_failed tape paper _ s cur (take p.n B) _ P w t Q (paged job rs l) a e y

pub showing_end : (second : Bool) (x tape paper : List ℕ) (s cur : Stream) (c : Cursor) (P : List ℕ)
    → Showing second x tape paper s cur c P → c.key ≡ 12
    → Shown second (words_of x) tape paper s false cur P
showing_end second x tape paper s cur c P h e = λ job rs l y.
    let k : Kept second (words_of x) tape paper s cur c P job rs = h.kept job rs l in
    writing_end tape paper _ s cur P
    (subst (λ (t : List ℕ). Writing tape paper (text_left second job at_start rs) s cur t P)
    (over_text second (words_of x) job c k.records e k.left) k.writing) y

-- ---- the refusal's line, as one page

pub refused_line_lem : (n m : ℕ) (paper tape : List ℕ) (s : Stream) (O B : List ℕ) (w : Result Unit Cut) (t : Stream)
    (Q : List ℕ) → at_of s ≤ length paper → Wrote 256 0 O m B (refused_line n)
    → WroteAll tape paper (take m B) s w t Q → Refused n tape paper s (is_err w) t Q
refused_line_lem n m paper tape s O B w t Q h y a = λ z.
    subst (λ (l : List ℕ). OnPaper tape paper l s (is_err w) t Q) y.is
    (one_page tape paper (take m B) s w t Q h a z)
