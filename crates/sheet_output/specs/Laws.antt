-- The register sheet from its start to its end, and each page. Assumes nothing.
use Rattle.std.specs.Prelude.{◌≡◌, refl, Bool, true, false, cond, List, [], ◌++◌, ℕ, ◌≤◌, ◌<◌, length, take}
use Rattle.std.proofs.Common.{sym, ap, subst, ◌∙◌, append_assoc, append-nil, arith, length-take-le}
use Rattle.words.specs.Words.{word_count, words_of}
use Rattle.words.specs.Laws.{length_words}
use Rattle.definition.specs.declared.Refusal.{Refusal}
use Rattle.definition.specs.declared.Refusal.TheVariants.{NotARecord, OverALimit, BadBook, BadFunction, BadHint, BadSegment, BadUse, Stopped, Full}
use Rattle.definition.specs.Types.{done, number_of}
use Rattle.definition.specs.Build.{Result}
use Rattle.definition.specs.declared.SheetRefusal.{SheetRefusal}
use Rattle.definition.specs.declared.SheetRefusal.TheVariants.{By, WrittenDiffers}
use Rattle.definition.specs.SheetForms.{sheet_number_of, SheetOut, given', refused', answer_text}
use Rattle.definition.proofs.Forms.{same_text}
use Rattle.virt_regs.specs.declared.OutLayout.{OutLayout}
use Rattle.virt_regs.specs.Encoding.{Holds}
use Rattle.virt_regs.specs.Held.{held_long}
use Rattle.register_sheet.specs.Typed.{refused_line}
use Rattle.sheet_output.specs.declared.Cursor.{Cursor}
use Rattle.lines.specs.declared.Page.{Page}
use Rattle.lines.specs.Wrote.{Wrote}
use Rattle.sheet_output.specs.Left.{at_start, rows_left}
use Rattle.sheet_output.specs.Rows.{behind_end}
use Rattle.sheet_output.specs.Pages.{Shows, Filled}
use Rattle.sheet_output.specs.Sheets.{sheet_start, sheet_end_lem, start_stands}
use Rattle.build_answer.specs.declared.BuildEnd.{BuildEnd}
use Rattle.build_answer.specs.Answered.{state_of}
use Rattle.build_answer.specs.Sheets.{sheet_end, SheetAnswered}
use Rattle.sheet_output.specs.AnswerPages.{left_of, Printing, Prints, Paged, Turned, Refuses}

-- ---- the whole sheet

-- at the start all of it is left
pub left_start : (o : SheetOut Result) → left_of o at_start ≡ answer_text o
unfolding left_of
left_start (given' res) = sheet_start (state_of res) ∙ sym (same_text (done res))
left_start (refused' f) = refl

-- and behind the end nothing
pub left_end : (o : SheetOut Result) (c : Cursor) → c.ended ≡ true → left_of o c ≡ []
unfolding left_of
left_end (given' res) c e = sheet_end_lem (state_of res) c e
left_end (refused' f) c e = ap (λ (b : Bool). cond b [] (answer_text (refused' f))) e

-- an answer that was given can be printed from the start
pub printing_start : (n : ℕ) (ol : OutLayout) (o : SheetOut Result) (r : BuildEnd) (x : List ℕ) → SheetAnswered n ol o r x → Printing ol o r x at_start
printing_start n ol o r x a = record { end = a.end; holds = a.holds; stands = λ res e. start_stands (state_of res) }

pub prints_next : (ol : OutLayout) (r : BuildEnd) (x : List ℕ) (c : Cursor) (p : Page Cursor) (B : List ℕ) → Prints ol r x c → Turned ol r x c p B → Prints ol r x p.cur
prints_next ol r x c p B h t = record { few_regs = h.few_regs; few_groups = h.few_groups; answer = h.answer; printing = (t.paged h.answer h.printing).printing }

-- page after page: the pages `out` so far and what is left are the sheet, and at the end the pages are
pub pages_next : (ol : OutLayout) (o : SheetOut Result) (r : BuildEnd) (x : List ℕ) (out : List ℕ) (c : Cursor) (p : Page Cursor) (B : List ℕ) → out ++ left_of o c ≡ answer_text o → Paged ol o r x c p B
    → (out ++ take p.n B) ++ left_of o p.cur ≡ answer_text o
pages_next ol o r x out c p B e g = append_assoc out (take p.n B) (left_of o p.cur) ∙ ap (λ (t : List ℕ). out ++ t) (sym g.text) ∙ e

pub pages_done : (o : SheetOut Result) (out : List ℕ) (c : Cursor) → out ++ left_of o c ≡ answer_text o → c.ended ≡ true → out ≡ answer_text o
pages_done o out c e d = sym (append-nil out) ∙ ap (λ (t : List ℕ). out ++ t) (sym (left_end o c d)) ∙ e

-- ---- accepted or refused, by the number

record Accepted (o : SheetOut Result) : Type 0 where
  res : Result
  is : o ≡ given' res

record Refused (o : SheetOut Result) : Type 0 where
  by : SheetRefusal
  is : o ≡ refused' by

number_some : (f : Refusal) → number_of f ≡ 0 → ⊥
number_some NotARecord e = omega (arith, e)
number_some OverALimit e = omega (arith, e)
number_some BadBook e = omega (arith, e)
number_some BadFunction e = omega (arith, e)
number_some BadHint e = omega (arith, e)
number_some BadSegment e = omega (arith, e)
number_some BadUse e = omega (arith, e)
number_some (Stopped s) e = omega (arith, e)
number_some Full e = omega (arith, e)

sheet_number_some : (f : SheetRefusal) → sheet_number_of f ≡ 0 → ⊥
sheet_number_some (By r) e = number_some r e
sheet_number_some WrittenDiffers e = omega (arith, e)

accepted : (o : SheetOut Result) → (sheet_end o).number ≡ 0 → Accepted o
unfolding sheet_end
accepted (given' res) e = record { res = res; is = refl }
accepted (refused' f) e = absurd (sheet_number_some f e)

not_done : (o : SheetOut Result) (res : Result) → o ≡ given' res → (sheet_end o).number ≡ 0
unfolding sheet_end
not_done o res e = ap (λ (u : SheetOut Result). (sheet_end u).number) e

refused_by : (o : SheetOut Result) → ((sheet_end o).number ≡ 0 → ⊥) → Refused o
unfolding sheet_end
refused_by (given' res) h = absurd (h refl)
refused_by (refused' f) h = record { by = f; is = refl }

registers_of : (o : SheetOut Result) (r : BuildEnd) (res : Result) → r ≡ sheet_end o → o ≡ given' res → r.registers ≡ length res.registers
unfolding sheet_end
registers_of o r res e d = ap (λ (u : BuildEnd). u.registers) e ∙ ap (λ (u : SheetOut Result). (sheet_end u).registers) d

groups_of : (o : SheetOut Result) (r : BuildEnd) (res : Result) → r ≡ sheet_end o → o ≡ given' res → r.groups ≡ length res.groups
unfolding sheet_end
groups_of o r res e d = ap (λ (u : BuildEnd). u.groups) e ∙ ap (λ (u : SheetOut Result). (sheet_end u).groups) d

number_of_lem : (o : SheetOut Result) (r : BuildEnd) → r ≡ sheet_end o → r.number ≡ (sheet_end o).number
number_of_lem o r e = ap (λ (u : BuildEnd). u.number) e

-- ---- a page of a result

pub fill_asked : (ol : OutLayout) (r : BuildEnd) (x : List ℕ) (c : Cursor) → Prints ol r x c → r.number ≡ 0 → Shows ol (word_count x) (words_of x) r.registers r.groups c
fill_asked ol r x c p z =
    let g : Printing ol p.answer r x c = p.printing in
    let d : Accepted p.answer = accepted p.answer (sym (number_of_lem p.answer r g.end) ∙ z) in
    let h : Holds ol (words_of x) (state_of d.res) = g.holds d.res d.is in
    record {
      long = omega (arith, held_long h, length_words x);
      few_regs = p.few_regs;
      few_groups = p.few_groups;
      st = state_of d.res;
      holds = h;
      has_registers = registers_of p.answer r d.res g.end d.is;
      has_groups = groups_of p.answer r d.res g.end d.is;
      stands = g.stands d.res d.is;
    }

pub fill_turned : (ol : OutLayout) (r : BuildEnd) (x : List ℕ) (c : Cursor) (p : Page Cursor) (B : List ℕ) → r.number ≡ 0 → 256 ≤ length B → Filled ol (word_count x) (words_of x) r.registers r.groups c p B
    → Turned ol r x c p B
unfolding left_of
fill_turned ol r x c p B z l f =
    record {
      within = f.within;
      counts = sym (length-take-le p.n B f.within);
      fewer = λ e. f.fewer e l;
      paged = λ o g. record {
        printing = record {
          end = g.end;
          holds = g.holds;
          stands = λ res e. (f.paged (state_of res) (g.holds res e) (registers_of o r res g.end e) (groups_of o r res g.end e) (g.stands res e)).stands;
        };
        text =
            let d : Accepted o = accepted o (sym (number_of_lem o r g.end) ∙ z) in
            subst (λ (u : SheetOut Result). left_of u c ≡ take p.n B ++ left_of u p.cur) (sym d.is)
            (f.paged (state_of d.res) (g.holds d.res d.is) (registers_of o r d.res g.end d.is) (groups_of o r d.res g.end d.is) (g.stands d.res d.is)).text;
      };
    }

-- ---- the page of a refusal

refused_text : (f : SheetRefusal) (c : Cursor) (p : Page Cursor) (B : List ℕ) → Refuses (sheet_number_of f) c p B → left_of (refused' f) c ≡ take p.n B ++ left_of (refused' f) p.cur
unfolding left_of answer_text refused_line
refused_text f c p B h =
    sym h.text ∙ sym (append-nil (take p.n B)) ∙ ap (λ (d : Cursor). take p.n B ++ left_of (refused' f) d) (sym h.behind)

one_less : (ol : OutLayout) (a b : ℕ) (c : Cursor) → c.ended ≡ false → rows_left ol a b (behind_end c) < rows_left ol a b c
one_less ol a b c e = rw e (omega arith)

pub refused_turned : (ol : OutLayout) (r : BuildEnd) (x : List ℕ) (c : Cursor) (p : Page Cursor) (B : List ℕ) → (r.number ≡ 0 → ⊥) → Refuses r.number c p B → Turned ol r x c p B
unfolding sheet_end
refused_turned ol r x c p B nz h =
    record {
      within = h.within;
      counts = sym (length-take-le p.n B h.within);
      fewer = λ e. subst (λ (d : Cursor). rows_left ol r.registers r.groups d < rows_left ol r.registers r.groups c) (sym h.behind) (one_less ol r.registers r.groups c e);
      paged = λ o g. record {
        printing = record { end = g.end; holds = g.holds; stands = λ res e. absurd (nz (number_of_lem o r g.end ∙ not_done o res e)) };
        text =
            let d : Refused o = refused_by o (λ q. nz (number_of_lem o r g.end ∙ q)) in
            let k : r.number ≡ sheet_number_of d.by = number_of_lem o r g.end ∙ ap (λ (u : SheetOut Result). (sheet_end u).number) d.is in
            subst (λ (u : SheetOut Result). left_of u c ≡ take p.n B ++ left_of u p.cur) (sym d.is)
            (refused_text d.by c p B (subst (λ (m : ℕ). Refuses m c p B) k h));
      };
    }

-- its line
pub refuses_line : (k : ℕ) (c : Cursor) (p : Page Cursor) (X B : List ℕ) → c.ended ≡ false → p.cur ≡ behind_end c → 256 ≤ length B → Wrote (256) 0 X p.n B (refused_line k) → Refuses k c p B
refuses_line k c p X B e b l w =
    record { behind = b; within = omega (arith, w.most); text = w.is ∙ sym (ap (λ (t : Bool). cond t [] (refused_line k)) e) }

pub refuses_none : (k : ℕ) (c : Cursor) (p : Page Cursor) (B : List ℕ) → c.ended ≡ true → p.cur ≡ behind_end c → p.n ≡ 0 → Refuses k c p B
refuses_none k c p B e b n =
    record { behind = b; within = omega (arith, n); text = ap (λ (m : ℕ). take m B) n ∙ sym (ap (λ (t : Bool). cond t [] (refused_line k)) e) }
