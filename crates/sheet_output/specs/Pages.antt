-- What is asked before a line or a page is written, and what is left behind it. Assumes nothing.
use Rattle.std.specs.Prelude.{◌≡◌, false, List, ◌++◌, ℕ, ◌+◌, ◌^◌, ◌≤◌, ◌<◌, length, take}
use Rattle.definition.specs.Types.{State}
use Rattle.virt_regs.specs.declared.OutLayout.{OutLayout}
use Rattle.virt_regs.specs.Encoding.{tables_end, Holds}
use Rattle.sheet_output.specs.declared.Cursor.{Cursor}
use Rattle.lines.specs.declared.Page.{Page}
use Rattle.sheet_output.specs.Left.{text_left, Stands, rows_left}

-- the w words O hold some state with these numbers of registers and groups, and the cursor is one of its sheet
pub record Shows (ol : OutLayout) (w : ℕ) (O : List ℕ) (regs groups : ℕ) (c : Cursor) : Type 0 where
  pub long : tables_end ol ≤ w
  pub few_regs : ol.regs < 2 ^ 32
  pub few_groups : ol.groups < 2 ^ 32
  pub st : State
  pub holds : Holds ol O st
  pub has_registers : regs ≡ length st.registers
  pub has_groups : groups ≡ length st.groups
  pub stands : Stands st c

-- from the text of the first k bytes of B and the cursor c to that of the first n bytes of B' and the cursor c': together with what is left of st's sheet they are the same text
pub record Went (st : State) (c : Cursor) (k : ℕ) (B : List ℕ) (c' : Cursor) (n : ℕ) (B' : List ℕ) : Type 0 where
  pub stands : Stands st c'
  pub text : take n B' ++ text_left st c' ≡ take k B ++ text_left st c

-- so for every state that the words hold
abbrev pub Goes : OutLayout → List ℕ → ℕ → ℕ → Cursor → ℕ → List ℕ → Cursor → ℕ → List ℕ → Type 0
Goes ol O regs groups c k B c' n B' =
    (st : State) → Holds ol O st → regs ≡ length st.registers → groups ≡ length st.groups → Stands st c → Went st c k B c' n B'

-- a line is written behind the first `at` bytes
pub record Stepped (ol : OutLayout) (O : List ℕ) (regs groups : ℕ) (c : Cursor) (at : ℕ) (B : List ℕ) (r : Page Cursor) (B' : List ℕ) : Type 0 where
  pub most : r.n ≤ at + 256
  pub fewer : rows_left ol regs groups r.cur < rows_left ol regs groups c
  pub goes : Goes ol O regs groups c at B r.cur r.n B'

-- what is left of st's sheet is the page's bytes and what is left behind it
pub record Paged (st : State) (c : Cursor) (r : Page Cursor) (B' : List ℕ) : Type 0 where
  pub stands : Stands st r.cur
  pub text : text_left st c ≡ take r.n B' ++ text_left st r.cur

-- a page is written to the first bytes of the buffer, which is B' now: a next page can follow, and where the end was not printed and a line has room, there are fewer lines left
pub record Filled (ol : OutLayout) (w : ℕ) (O : List ℕ) (regs groups : ℕ) (c : Cursor) (r : Page Cursor) (B' : List ℕ) : Type 0 where
  pub within : r.n ≤ length B'
  pub shows : Shows ol w O regs groups r.cur
  pub fewer : c.ended ≡ false → 256 ≤ length B' → rows_left ol regs groups r.cur < rows_left ol regs groups c
  pub paged : (st : State) → Holds ol O st → regs ≡ length st.registers → groups ≡ length st.groups → Stands st c → Paged st c r B'
