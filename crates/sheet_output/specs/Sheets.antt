-- A sheet from its start to its end. Assumes nothing.
use Rattle.std.specs.Prelude.{◌≡◌, refl, Bool, true, false, cond, List, [], ◌++◌, ℕ, ◌^◌, ◌<◌, length, take, drop}
use Rattle.std.proofs.Common.{sym, ap, ◌∙◌, append_assoc, append-nil, arith, length-append}
use Rattle.words.specs.Words.{word_count, words_of}
use Rattle.words.specs.Laws.{length_words}
use Rattle.definition.specs.Types.{State, done}
use Rattle.definition.specs.Build.{result_of}
use Rattle.definition.specs.Place.{uses_of}
use Rattle.definition.specs.Lines.{Line, use_lines, seg_lines, vreg_lines, group_lines, printed}
use Rattle.definition.specs.RegisterSheet.{lines_bytes, register_sheet}
use Rattle.virt_regs.specs.declared.OutLayout.{OutLayout}
use Rattle.virt_regs.specs.Encoding.{all_pieces, Holds}
use Rattle.virt_regs.specs.Held.{held_long}
use Rattle.virt_regs.specs.Reads.{first_piece, first_use}
use Rattle.sheet_output.specs.declared.Cursor.{Cursor}
use Rattle.lines.specs.declared.Page.{Page}
use Rattle.sheet_output.specs.Left.{at_start, uses_left, pieces_left, open_lines, lines_left, text_left, Stands}
use Rattle.sheet_output.specs.Pages.{Shows, Paged}

-- at the start the whole sheet is left
pub sheet_start : (st : State) → text_left st at_start ≡ register_sheet (done (result_of st))
unfolding text_left lines_left open_lines register_sheet printed use_lines seg_lines uses_of all_pieces
sheet_start st = refl

-- and behind the end line nothing
pub sheet_end_lem : (st : State) (c : Cursor) → c.ended ≡ true → text_left st c ≡ []
unfolding text_left lines_left lines_bytes
sheet_end_lem st c e = ap (λ (b : Bool). lines_bytes (cond b [] (open_lines st c.regs c.segs c.uses c.groups))) e

pub start_stands : (st : State) → Stands st at_start
unfolding first_piece first_use uses_of all_pieces
start_stands st = record { uses = omega arith; uses_end_lem = refl; segs = omega arith; segs_end_lem = refl; regs = omega arith; groups = omega arith }

-- bytes that hold a state can be printed from the start
pub start_shows : (ol : OutLayout) (x : List ℕ) (st : State) → ol.regs < 2 ^ 32 → ol.groups < 2 ^ 32 → Holds ol (words_of x) st
    → Shows ol (word_count x) (words_of x) (length st.registers) (length st.groups) at_start
start_shows ol x st a b h =
    record {
      long = omega (arith, held_long h, length_words x);
      few_regs = a;
      few_groups = b;
      st = st;
      holds = h;
      has_registers = refl;
      has_groups = refl;
      stands = start_stands st;
    }

-- ---- page after page: the pages `out` so far and what is left are the sheet

pub page_next : (st : State) (out : List ℕ) (c : Cursor) (r : Page Cursor) (B : List ℕ) → out ++ text_left st c ≡ register_sheet (done (result_of st)) → Paged st c r B
    → (out ++ take r.n B) ++ text_left st r.cur ≡ register_sheet (done (result_of st))
page_next st out c r B e p = append_assoc out (take r.n B) (text_left st r.cur) ∙ ap (λ (t : List ℕ). out ++ t) (sym p.text) ∙ e

pub pages_done : (st : State) (out : List ℕ) (c : Cursor) → out ++ text_left st c ≡ register_sheet (done (result_of st)) → c.ended ≡ true → out ≡ register_sheet (done (result_of st))
pages_done st out c e o = sym (append-nil out) ∙ ap (λ (t : List ℕ). out ++ t) (sym (sheet_end_lem st c o)) ∙ e

-- a line is left until the end is printed
pub line_left : (st : State) (c : Cursor) → c.ended ≡ false → 0 < length (lines_left st c)
unfolding lines_left open_lines
line_left st c o =
    rw o (last (use_lines (uses_left st c.segs c.uses)) _ (last (seg_lines (pieces_left st c.regs c.segs)) _ (last (vreg_lines c.regs (drop c.regs st.registers)) _ (last (group_lines c.groups (drop c.groups st.groups)) _ (omega arith)))))
  where
    last : (xs ys : List Line) → 0 < length ys → 0 < length (xs ++ ys)
    last xs ys h = omega (arith, length-append xs ys, h)
