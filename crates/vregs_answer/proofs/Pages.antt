-- Page after page. Assumes nothing.
use mathlib.Core.Path.{◌≡◌, sym, ap, subst, ◌∙◌}
use mathlib.Core.Bool.{true, false}
use mathlib.Core.List.{List, ◌++◌}
use Prim.Native.Nat.{ℕ, ◌≤◌}
use lib.ListN.{length, take}
use Rattle.std.specs.Prelude.{IsOk, IsErr, Result as Result·std}
use Rattle.definition.specs.Build.{Result}
use Rattle.definition.specs.SheetForms.{SheetOut, answer_text}
use Rattle.virt_regs.specs.declared.OutLayout.{OutLayout}
use Rattle.build_answer.specs.declared.BuildEnd.{BuildEnd}
use Rattle.sheet_output.specs.declared.Cursor.{Cursor}
use Rattle.lines.specs.declared.Page.{Page}
use Rattle.sheet_output.specs.Left.{at_start}
use Rattle.sheet_output.specs.AnswerPages.{left_of, Printing, Prints, Paged, Turned}
use Rattle.sheet_output.specs.Laws.{left_start, left_end, prints_next}
use Rattle.vregs_answer.specs.Sheet.{vregs_tables}
use Rattle.streams.specs.declared.Stream.{Stream}
use Rattle.streams.specs.declared.Cut.{Cut}
use Rattle.streams.specs.Tape.{at_of, WroteAll}
use Rattle.streams.specs.Paper.{Writing, writing_start, writing_next, writing_failed, writing_end}
use Rattle.vregs_answer.specs.Shown.{Shown}

-- what is written and what is left are the sheet
pub record Kept (ol : OutLayout) (end : BuildEnd) (x tape paper : List ℕ) (s cur : Stream) (c : Cursor) (P : List ℕ)
    (o : SheetOut Result) : Type 0 where
  pub printing : Printing ol o end x c
  pub writing : Writing tape paper (answer_text o) s cur (left_of o c) P

pub record Showing (ol : OutLayout) (end : BuildEnd) (x tape paper : List ℕ) (s cur : Stream) (c : Cursor)
    (P : List ℕ) : Type 0 where
  pub prints : Prints ol end x c
  pub bound : at_of cur ≤ length P
  pub kept : (o : SheetOut Result) → Printing vregs_tables o end x at_start → Kept ol end x tape paper s cur c P o

pub showing_start : (ol : OutLayout) (end : BuildEnd) (x tape paper : List ℕ) (s : Stream) (c : Cursor)
    → Prints ol end x c → ol ≡ vregs_tables → c ≡ at_start → at_of s ≤ length paper
    → Showing ol end x tape paper s s c paper
showing_start ol end x tape paper s c p e d h =
    record {
      prints = p;
      bound = h;
      kept = λ o g. record {
        printing = subst (λ (l : OutLayout). Printing l o end x c) (sym e)
            (subst (λ (k : Cursor). Printing vregs_tables o end x k) (sym d) g);
        writing = subst (λ (l : List ℕ). Writing tape paper (answer_text o) s s l paper)
            (sym (ap (λ (k : Cursor). left_of o k) d ∙ left_start o)) (writing_start tape paper (answer_text o) s h);
      };
    }

module _ (ol : OutLayout) (end : BuildEnd) (x tape paper : List ℕ) (s cur : Stream) (c : Cursor) (P : List ℕ)
    (p : Page Cursor) (B : List ℕ) (w : Result·std Unit Cut) (t : Stream) (Q : List ℕ)
    (h : Showing ol end x tape paper s cur c P) (d : Turned ol end x c p B)
    (a : WroteAll tape P (take p.n B) cur w t Q) where
  module _ (o : SheetOut Result) (g : Printing vregs_tables o end x at_start) where
    page_of : Paged ol o end x c p B
    page_of = d.paged o (h.kept o g).printing

    -- the page, and what is left behind it
    paged : Writing tape paper (answer_text o) s cur (take p.n B ++ left_of o p.cur) P
    paged = subst (λ (l : List ℕ). Writing tape paper (answer_text o) s cur l P) page_of.text (h.kept o g).writing

  pub showing_next : IsOk w → Showing ol end x tape paper s t p.cur Q
  showing_next e =
      record {
        prints = prints_next ol end x c p B h.prints d;
        bound = a.bound;
        kept = λ o g. record {
          printing = (page_of o g).printing;
          writing = writing_next tape paper _ s cur (take p.n B) _ P w t Q (paged o g) a e;
        };
      }

  pub showing_failed : IsErr w → Shown end x tape paper s true t Q
  showing_failed e = record {
    on_paper = λ y o g. writing_failed tape paper _ s cur (take p.n B) _ P w t Q (paged o g) a e y;
  }

pub showing_end : (ol : OutLayout) (end : BuildEnd) (x tape paper : List ℕ) (s cur : Stream) (c : Cursor) (P : List ℕ)
    → Showing ol end x tape paper s cur c P → c.ended ≡ true → Shown end x tape paper s false cur P
showing_end ol end x tape paper s cur c P h e =
    record {
      on_paper = λ y o g.
          writing_end tape paper _ s cur P
          (subst (λ (l : List ℕ). Writing tape paper (answer_text o) s cur l P) (left_end o c e) (h.kept o g).writing) y;
    }
