-- What is left to print of an answer's register sheet, and a page of it. Assumes nothing.
use Rattle.std.specs.Prelude.{◌≡◌, false, cond, List, [], ◌++◌, ℕ, ◌^◌, ◌≤◌, ◌<◌, length, take}
use Rattle.words.specs.Words.{words_of}
use Rattle.definition.specs.Build.{Result}
use Rattle.definition.specs.SheetForms.{SheetOut, given', refused', answer_text}
use Rattle.virt_regs.specs.declared.OutLayout.{OutLayout}
use Rattle.virt_regs.specs.Encoding.{Holds}
use Rattle.register_sheet.specs.Typed.{refused_line}
use Rattle.sheet_output.specs.declared.Cursor.{Cursor}
use Rattle.lines.specs.declared.Page.{Page}
use Rattle.sheet_output.specs.Left.{text_left, Stands, rows_left}
use Rattle.sheet_output.specs.Rows.{behind_end}
use Rattle.build_answer.specs.declared.BuildEnd.{BuildEnd}
use Rattle.build_answer.specs.Answered.{state_of}
use Rattle.build_answer.specs.Sheets.{sheet_end}

-- what is left of the sheet at a cursor
unfoldable pub left_of : SheetOut Result → Cursor → List ℕ
left_of (given' res) c = text_left (state_of res) c
left_of (refused' f) c = cond c.ended [] (answer_text (refused' f))

-- the answer o ended with r and stands in the bytes x, and the cursor is one of its sheet
pub record Printing (ol : OutLayout) (o : SheetOut Result) (r : BuildEnd) (x : List ℕ) (c : Cursor) : Type 0 where
  pub end : r ≡ sheet_end o
  pub holds : (res : Result) → o ≡ given' res → Holds ol (words_of x) (state_of res)
  pub stands : (res : Result) → o ≡ given' res → Stands (state_of res) c

-- some answer does
pub record Prints (ol : OutLayout) (r : BuildEnd) (x : List ℕ) (c : Cursor) : Type 0 where
  pub few_regs : ol.regs < 2 ^ 32
  pub few_groups : ol.groups < 2 ^ 32
  pub answer : SheetOut Result
  pub printing : Printing ol answer r x c

-- a page p of o's sheet, in the first bytes of B
pub record Paged (ol : OutLayout) (o : SheetOut Result) (r : BuildEnd) (x : List ℕ) (c : Cursor) (p : Page Cursor) (B : List ℕ) : Type 0 where
  pub printing : Printing ol o r x p.cur
  pub text : left_of o c ≡ take p.n B ++ left_of o p.cur

-- it lies in B, and is one of every such answer; and as long as the end was not printed, fewer lines are left behind it
pub record Turned (ol : OutLayout) (r : BuildEnd) (x : List ℕ) (c : Cursor) (p : Page Cursor) (B : List ℕ) : Type 0 where
  pub within : p.n ≤ length B
  pub counts : p.n ≡ length (take p.n B)
  pub fewer : c.ended ≡ false → rows_left ol r.registers r.groups p.cur < rows_left ol r.registers r.groups c
  pub paged : (o : SheetOut Result) → Printing ol o r x c → Paged ol o r x c p B

-- the page of a refusal by number k
pub record Refuses (k : ℕ) (c : Cursor) (p : Page Cursor) (B : List ℕ) : Type 0 where
  pub behind : p.cur ≡ behind_end c
  pub within : p.n ≤ length B
  pub text : take p.n B ≡ cond c.ended [] (refused_line k)
