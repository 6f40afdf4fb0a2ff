-- What is asked before a line or a page is written, and what is left behind it. Assumes nothing.
use Rattle.std.specs.Prelude.{◌≡◌, Bool, false, List, ◌++◌, ℕ, ◌+◌, ◌≤◌, ◌<◌, eqb, length, take}
use Rattle.words.specs.Words.{word_count, words_of}
use Rattle.definition.specs.Types.{Job}
use Rattle.definition.specs.JobSheet.{Record}
use Rattle.sheet_rules.specs.Places.{table_words}
use Rattle.job_pages.specs.declared.Cursor.{Cursor as Held}
use Rattle.lines.specs.declared.Page.{Page}
use Rattle.job_pages.specs.Cursors.{Cursor, cursor_of, steps_left}
use Rattle.job_pages.specs.Left.{Left, text_left}

-- the table of the bytes x has some records left at the cursor
pub record Shows (x : List ℕ) (c : Cursor) : Type 0 where
  pub long : word_count x ≡ table_words
  pub job : Job
  pub records : List Record
  pub left : Left (words_of x) job c records

-- from the first k bytes of B and the cursor c to the first n bytes of B' and the cursor c': together with what is left
-- they are the same text
pub record Went (second : Bool) (T : List ℕ) (job : Job) (c : Cursor) (rs : List Record) (k : ℕ) (B : List ℕ)
    (c' : Cursor) (n : ℕ) (B' : List ℕ) : Type 0 where
  pub records : List Record
  pub left : Left T job c' records
  pub text : take n B' ++ text_left second job c' records ≡ take k B ++ text_left second job c rs

-- so for all records that are left
abbrev pub Goes : Bool → List ℕ → Cursor → ℕ → List ℕ → Cursor → ℕ → List ℕ → Type 0
Goes second T c k B c' n B' =
    (job : Job) (rs : List Record) → Left T job c rs → Went second T job c rs k B c' n B'

-- a page whose cursor has its kind as a number
abbrev pub page_at : Page Held → Page Cursor
page_at p = record { cur = cursor_of p.cur; n = p.n }

-- a line, or none, is written behind the first `at` bytes
pub record Stepped (second : Bool) (T : List ℕ) (c : Cursor) (at : ℕ) (B : List ℕ) (r : Page Cursor) (B' : List ℕ) :
    Type 0 where
  pub most : r.n ≤ at + 256
  pub fewer : steps_left r.cur < steps_left c
  pub goes : Goes second T c at B r.cur r.n B'

-- what is left at c is the page's bytes and what is left behind it
pub record Paged (second : Bool) (T : List ℕ) (job : Job) (c : Cursor) (rs : List Record) (r : Page Cursor)
    (B' : List ℕ) : Type 0 where
  pub records : List Record
  pub left : Left T job r.cur records
  pub text : text_left second job c rs ≡ take r.n B' ++ text_left second job r.cur records

-- a page is written to the first bytes of the buffer, which is B' now, until the end is written or a line might have no
-- room: a next page can follow, and where the end was not written and a line has room, fewer steps are left
pub record Filled (second : Bool) (x : List ℕ) (c : Cursor) (r : Page Cursor) (B' : List ℕ) : Type 0 where
  pub within : r.n ≤ length B'
  pub full : eqb r.cur.key 12 ≡ false → length B' < r.n + 256
  pub shows : Shows x r.cur
  pub fewer : eqb c.key 12 ≡ false → 256 ≤ length B' → steps_left r.cur < steps_left c
  pub paged : (job : Job) (rs : List Record) → Left (words_of x) job c rs → Paged second (words_of x) job c rs r B'
