-- From the input to the first page. Assumes nothing.
use mathlib.Core.Path.{◌≡◌, sym, ap, subst, ◌∙◌}
use mathlib.Core.Bool.{Bool, true, false}
use mathlib.Core.List.{List}
use Prim.Native.Nat.{ℕ}
use native.Mathlib.Omega.{arith}
use lib.ListN.{drop}
use Rattle.definition.specs.Build.{Result}
use Rattle.definition.specs.Limits.{vregs_room}
use Rattle.definition.specs.SheetForms.{SheetOut, answer_to_sheet, vregs_of}
use Rattle.virt_regs.specs.declared.OutLayout.{OutLayout}
use Rattle.sheet_rules.specs.Places.{table_words}
use Rattle.sheet.specs.declared.either.Reading.{Reading}
use Rattle.sheet.specs.Front.{Formed, formed, run_form, open_form}
use Rattle.sheet.specs.Stream.{Streamed}
use Rattle.sheet_laws.specs.Agree.{all_bytes}
use Rattle.sheet_output.specs.declared.Cursor.{Cursor}
use Rattle.sheet_output.specs.Left.{at_start}
use Rattle.build_answer.specs.declared.BuildEnd.{BuildEnd}
use Rattle.sheet_output.specs.AnswerPages.{Prints}
use Rattle.sheet_output.specs.Laws.{printing_start}
use Rattle.sheet_verdict.specs.Judged.{LeadsTo}
use Rattle.sheet_verdict.specs.Fed.{leads, leads_all}
use Rattle.vregs_answer.specs.Sheet.{vregs_tables, Answers}
use Rattle.streams.specs.declared.Stream.{Stream}
use Rattle.streams.specs.Tape.{is_tape, at_of}
use Rattle.streams.specs.Paper.{OnPaper}
use Rattle.sheet_verdict.specs.Taken.{Taken, all_fed}
use Rattle.vregs_answer.specs.Shown.{Shown}

-- the tables and the cursor that a loop begins with
pub begun : (ol : OutLayout) (r : BuildEnd) (x : List ℕ) (c : Cursor) → Prints vregs_tables r x at_start
    → ol ≡ vregs_tables → c ≡ at_start → Prints ol r x c
begun ol r x c p e d =
    subst (λ (l : OutLayout). Prints l r x c) (sym e) (subst (λ (k : Cursor). Prints vregs_tables r x k) (sym d) p)

-- the answer to the sheet that was read can be printed
pub prints_read : (n : ℕ) (cur : Reading) (W Y : List ℕ) (r : BuildEnd) (x : List ℕ)
    → Streamed (open_form table_words 1536) (formed cur W Y) → Answers n cur W Y r x → Prints vregs_tables r x at_start
prints_read n cur W Y r x s a =
    record {
      few_regs = omega arith;
      few_groups = omega arith;
      answer = answer_to_sheet s.bytes vregs_room;
      printing = printing_start n vregs_tables (answer_to_sheet s.bytes vregs_room) r x (a s.bytes (leads cur W Y s));
    }

-- ---- where no read failed, the sheet that was read is all bytes that are given

module _ (reads given : List ℕ) (input next : Stream) (n m : ℕ) (cur : Reading) (W Y : List ℕ) (en : n ≡ table_words)
    (em : m ≡ 1536) (t : Taken reads given input (open_form n m) (formed cur W Y) false next) where
  -- what is shown is the answer to them
  pub shown_all : (k : ℕ) (r : BuildEnd) (x writes paper : List ℕ) (output : Stream) (failed : Bool) (to : Stream)
      (P : List ℕ) → Answers k cur W Y r x → Shown r x writes paper output failed to P → is_tape input ≡ true
      → is_tape output ≡ true → OnPaper writes paper (vregs_of (drop (at_of input) given)) output failed to P
  unfolding vregs_of
  shown_all k r x writes paper output failed to P a s y z =
      let sheet : List ℕ = drop (at_of input) given in
      let o : SheetOut Result = answer_to_sheet sheet vregs_room in
      s.on_paper z o (printing_start k vregs_tables o r x (a sheet (leads_all reads given input next n m cur W Y en em t y)))
